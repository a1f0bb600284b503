-- What the functions behind `sheet_range` ask: that every cause was ruled out.
use Rattle.std.specs.Prelude.{◌+◌, ◌≤◌, ◌<◌}
use Rattle.integers.specs.Kit.{List, ℕ, length}
use Rattle.limits.specs.Limits.{places}
use Rattle.sheet_checks.specs.Check.{coefficient_format}
use Rattle.sheet_checks.specs.Sheets.{ValidSheet}

-- the 64 words from index a on are of the body of a coefficient sheet
pub record InBody (words : List ℕ) (a : ℕ) : Type 0 where
  pub right : ValidSheet coefficient_format words
  pub from : 1 ≤ a
  pub room : a + places < length words
