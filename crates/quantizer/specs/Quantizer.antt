-- Quantization of a coefficient (02, request 2, as T.81 A.3.4), and 02's way back from it, dequantization.
use Rattle.std.specs.Prelude.{◌≡◌, ◌*◌, ◌<◌, ◌*ℤ◌}
use Rattle.integers.specs.Kit.{Bool, false, List, ℕ, ℤ, pos, length, get_or}
use Rattle.integers.specs.Nearest.{half_away}
use Rattle.integers.specs.Range.{outside}
use Rattle.limits.specs.Limits.{places, step_limit}
use Rattle.quantizer.specs.ZigZag.{index_of}

-- quantization steps

-- "Steps are 1 to 1,024": cause 10 of a step
abbrev pub step_outside : ℕ → Bool
step_outside step = outside (pos 1) (pos step_limit) (pos step)

-- cause 10 of the step at index k of a list
abbrev pub step_outside_at : List ℕ → ℕ → Bool
step_outside_at steps k = step_outside (get_or steps k 0)

-- 64 steps, each of them in range
pub record Steps (steps : List ℕ) : Type 0 where
  pub size : length steps ≡ places
  pub in_range : (k : ℕ) → k < places → step_outside_at steps k ≡ false

-- "lent as 64 numbers in T.81's zig-zag order": the step of the place p
abbrev pub step_of : List ℕ → ℕ → ℕ
step_of steps p = get_or steps (index_of p) 0

-- a coefficient in eighths and its step

-- "8 × step": T.81 divides by the step, and a coefficient in eighths is 8 times T.81's
abbrev pub divisor : ℕ → ℕ
divisor step = 8 * step

-- "the coefficient in eighths over 8 × step, to the nearest, halves away from zero": the only such number, for a step above 0 (`only-quantized`)
abbrev pub quantized : ℤ → ℕ → ℤ
quantized y step = half_away y (divisor step)

-- "The way back is the kept number times 8 × step"
abbrev pub dequantized : ℤ → ℕ → ℤ
dequantized q step = pos (divisor step) *ℤ q
