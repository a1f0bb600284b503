-- What the loops behind `quantize` and `dequantize` ask: that causes were ruled out.
use Rattle.std.specs.Prelude.{◌≡◌, ◌<◌}
use Rattle.integers.specs.Kit.{Bool, false, List, ℕ}
use Rattle.limits.specs.Limits.{places}
use Rattle.quantizer.specs.Quantizer.{Steps}

-- 64 numbers, 64 steps in range, and a buffer of 64 numbers to write
pub record StepsReady (n : ℕ) (steps : List ℕ) (m : ℕ) : Type 0 where
  pub numbers : n ≡ places
  pub ready_steps : Steps steps
  pub room : m ≡ places

-- and no place beyond its limit
pub record PlacesReady (faulty : ℕ → Bool) (n : ℕ) (steps : List ℕ) (m : ℕ) : Type 0 where
  pub ready : StepsReady n steps m
  pub none_beyond : (p : ℕ) → p < places → faulty p ≡ false
