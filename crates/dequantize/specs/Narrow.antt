-- What the last loop of `dequantize` asks.
use Rattle.std.specs.Prelude.{◌≡◌, ◌<◌}
use Rattle.integers.specs.Kit.{false, List, ℕ, ℤ, length}
use Rattle.integers.specs.Range.{beyond_at}
use Rattle.limits.specs.Limits.{places, dequantized_limit}

-- 64 dequantized coefficients, as 64-bit numbers, none beyond the limit
pub record Narrow (z : List ℤ) : Type 0 where
  pub size : length z ≡ places
  pub narrow_at : (p : ℕ) → p < places → beyond_at dequantized_limit z p ≡ false
