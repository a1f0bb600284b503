-- Bounds under which the operations on elements, whose components 01 has in signed 32-bit numbers, do not wrap.
use Rattle.std.specs.Prelude.{◌-◌, ◌^◌, ◌≤◌}
use Rattle.integers.specs.Kit.{List, ℕ, ℤ, nat_abs}
use Rattle.ring.specs.Element.{component}

-- no component's magnitude is above B
pub record Within (B : ℕ) (a : List ℤ) : Type 0 where
  pub within : (k : ℕ) → nat_abs (component a k) ≤ B

-- the largest magnitude of n bits, the sign not counted
abbrev pub bit_limit : ℕ → ℕ
bit_limit n = 2 ^ n - 1

-- the largest B for which the sum and the difference of any two numbers of magnitude at most B fit an i32
abbrev pub headroom : ℕ
headroom = bit_limit 30
