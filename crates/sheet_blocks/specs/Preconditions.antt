-- What the functions ask, which is that the causes of refusal of the sheet job were ruled out, and what the loop over blocks leaves.
use Rattle.std.specs.Prelude.{◌≡◌, ◌+◌, ◌*◌, ◌^◌, ◌≤◌, ◌<◌}
use Rattle.integers.specs.Kit.{List, ℕ, T, ℤ, pos, nat_abs, length, get_or}
use Rattle.integers.specs.Table.{table, over_at}
use Rattle.limits.specs.Limits.{places}
use Rattle.coefficients.specs.Tables.{width}
use Rattle.words.specs.Word.{value_limit}
use Rattle.sheet_checks.specs.Check.{sample_format}
use Rattle.sheet_checks.specs.Sheets.{ValidSheet}
use Rattle.sheet_blocks.specs.declared.Totals.{Totals}
use Rattle.sheet_blocks.specs.Blocks.{Scratch, output_word}

-- every cause was looked for, and there is none
pub record Checked (K : Scratch) (words : List ℕ) (b scratch_length output_length : ℕ) : Type 0 where
  pub at_width : T (width b)
  pub right : ValidSheet sample_format words
  pub scratch_size : scratch_length ≡ K.size
  pub output_size : length words ≤ output_length

-- 64 coefficients that words can hold
pub record Fit (coefficients : List ℤ) : Type 0 where
  pub small : (i : ℕ) → i < places → nat_abs (get_or coefficients i (pos 0)) < value_limit

-- the output `was` after the words of n blocks from block j on were written into it: before them and behind them it is as it was
abbrev pub with_blocks : ℕ → List ℕ → ℕ → ℕ → List ℕ → List ℕ
with_blocks b words j n was = over_at (1 + places * j) (table (places * n) (λ i. output_word b words (1 + places * j + i))) was

-- both sums have room for a block more
pub record Room (t : Totals) : Type 0 where
  pub of_samples : nat_abs t.samples < 2 ^ 62
  pub of_firsts : nat_abs t.firsts < 2 ^ 62
