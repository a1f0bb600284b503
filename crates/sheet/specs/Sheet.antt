-- The sheet job (01, "Sheets" and "Why a set or sheet is turned back"; 02, request 5), for any words, any b and any buffers.
use Rattle.std.specs.Prelude.{◌∷◌, ◌++◌, ◌-◌, Result, Ok, Err}
use Rattle.integers.specs.Kit.{List, [], ℕ, leb, ℤ, length}
use Rattle.integers.specs.Table.{over}
use Rattle.answers.specs.declared.Refusal.{Refusal}
use Rattle.answers.specs.Answer.{Cause, sized, unless, accept_with}
use Rattle.answers.specs.Job.{Job}
use Rattle.coefficients.specs.Tables.{width}
use Rattle.sheet_checks.specs.Check.{sample_format, blocks, shape, contents}
use Rattle.sheet_blocks.specs.declared.Totals.{Totals}
use Rattle.sheet_blocks.specs.Blocks.{Scratch, block, coefficient_sheet}
use Rattle.sheet_blocks.specs.Sums.{no_totals, sheet_totals}
use Rattle.sheet.specs.declared.Written.{Written}

-- causes 3, 6, 7 for the count, 1, and then the first faulty word's, for a scratch of s numbers, which has to have `size`, and an output of o words
abbrev pub sheet_causes : ℕ → List ℕ → ℕ → ℕ → ℕ → List Cause
sheet_causes size words b s o =
    unless (width b) 3
    ∷ (shape sample_format words
    ++ (sized s size
    ∷ unless (leb (length words) o) 1
    ∷ contents sample_format words
    ∷ []))

-- what a call leaves in both buffers, and gives beside its answer: both sums
pub record Left : Type 0 where
  pub scratch : List ℤ
  pub output : List ℕ
  pub totals : Totals

-- "It returns the words written; output beyond them is untouched"; "An accepted sheet returns both as well, a refused one 0 and 0". What the scratch
-- holds, after the last block, is a parameter.
abbrev pub sheet_job : Scratch → List ℕ → ℕ → List ℤ → List ℕ → Job Left
sheet_job K words b scratch output = record {
  causes = sheet_causes K.size words b (length scratch) (length output);
  end = accept_with (length words);
  result = record { scratch = K.holds (block words (blocks words - 1)); output = over (coefficient_sheet b words) output; totals = sheet_totals b words };
  was = record { scratch = scratch; output = output; totals = no_totals };
}

-- both sums that a call gives: "a refused one 0 and 0"
abbrev pub totals_given : Result Written Refusal → Totals
totals_given (Ok w) = w.totals
totals_given (Err e) = no_totals
