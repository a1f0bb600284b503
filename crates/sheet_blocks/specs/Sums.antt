-- The two sums of a sheet (02, request 5): over the first k of its blocks, and over all.
use Rattle.std.specs.Prelude.{◌≡◌, ◌+◌, ◌*◌, ◌+ℤ◌}
use Rattle.integers.specs.Kit.{List, ℕ, ℤ, pos}
use Rattle.integers.specs.Sum.{sum}
use Rattle.limits.specs.Limits.{places}
use Rattle.sheet_checks.specs.Check.{value_at, blocks}
use Rattle.sheet_blocks.specs.declared.Totals.{Totals}
use Rattle.sheet_blocks.specs.Blocks.{coefficient_sheet}

-- "the sum of all samples": of the words of a sample sheet, after the head
unfoldable pub sample_sum : List ℕ → ℕ → ℤ
sample_sum words k = sum (pos 0) ◌+ℤ◌ (places * k) (λ i. value_at words (1 + i))

-- "the sum of all first coefficients in eighths": of the first word of each block of a coefficient sheet
unfoldable pub first_sum : List ℕ → ℕ → ℤ
first_sum words k = sum (pos 0) ◌+ℤ◌ k (λ j. value_at words (1 + places * j))

-- both sums "agree with the words read and written so far", which are k blocks of the sheet and of the output
pub record Agree (words output : List ℕ) (k : ℕ) (t : Totals) : Type 0 where
  pub of_samples : t.samples ≡ sample_sum words k
  pub of_firsts : t.firsts ≡ first_sum output k

-- no sums: before the first block, and beside a refusal
abbrev pub no_totals : Totals
no_totals = record { samples = pos 0; firsts = pos 0 }

-- of a whole sample sheet, and of its coefficient sheet at the width b

abbrev pub samples_total : List ℕ → ℤ
samples_total words = sample_sum words (blocks words)

abbrev pub firsts_total : ℕ → List ℕ → ℤ
firsts_total b words = first_sum (coefficient_sheet b words) (blocks words)

-- both
abbrev pub sheet_totals : ℕ → List ℕ → Totals
sheet_totals b words = record { samples = samples_total words; firsts = firsts_total b words }
