-- What the functions behind `to_floats` and `summary` ask: that causes were ruled out.
use Rattle.std.specs.Prelude.{◌≡◌, ◌<◌}
use Rattle.integers.specs.Kit.{false, List, ℕ, ℤ, length}
use Rattle.integers.specs.Range.{beyond_at}
use Rattle.limits.specs.Limits.{places, coefficient_limit}

-- 64 coefficients, none beyond the limit
pub record BlockInLimit (y : List ℤ) : Type 0 where
  pub size : length y ≡ places
  pub none_beyond : (p : ℕ) → p < places → beyond_at coefficient_limit y p ≡ false
