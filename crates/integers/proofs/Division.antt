-- Division that rounds down.
use Rattle.std.specs.Prelude.{◌≡◌, ◌+◌, ◌*◌, ◌-◌, ◌/◌, ◌≤◌, ◌<◌, ◌+ℤ◌, ◌*ℤ◌}
use Rattle.integers.specs.Kit.{ap, ℕ, suc, ℤ, pos, negsuc, nat_abs}
use native.Mathlib.Nat.{mul-div-le, lt-mul-div-succ, mul-div_right, div-eq_of_lt-le, div-le_self}
use native.Mathlib.Omega.{arith}
use lib.Signed.{◌≤ℤ◌, ◌<ℤ◌, shr_z}
use Rattle.integers.proofs.Integer.{up, down, as_dif, dif_le, dif_lt, difs}

-- w is z/m rounded down: by their parts, so that `omega` reads it
by_parts : (z w : ℤ) (m : ℕ) → m * up w + down z ≤ up z + m * down w → up z + m * down w < m * (up w + 1) + down z
    → ((pos m *ℤ w) ≤ℤ z) × (z <ℤ (pos m *ℤ (w +ℤ pos 1)))
by_parts z w m low high = (
  rw (as_dif z, as_dif w, as_dif (pos m)) (simp difs ((dif_le _ _ _ _).1 (omega arith))),
  rw (as_dif z, as_dif w, as_dif (pos m), as_dif (pos 1)) (simp difs ((dif_lt _ _ _ _).1 (omega arith))),
)

pub rounded-down : (z : ℤ) (m : ℕ) → 0 < m → ((pos m *ℤ shr_z z m) ≤ℤ z) × (z <ℤ (pos m *ℤ (shr_z z m +ℤ pos 1)))
rounded-down (pos a) m h = by_parts (pos a) (pos (a / m)) m (omega (arith, mul-div-le a m)) (omega (arith, lt-mul-div-succ a h))
rounded-down (negsuc a) m h = by_parts (negsuc a) (negsuc (a / m)) m (omega (arith, lt-mul-div-succ a h)) (omega (arith, mul-div-le a m))

-- it is exact for a multiple of m
pub shr_z_exact : (m : ℕ) (z : ℤ) → 0 < m → shr_z (pos m *ℤ z) m ≡ z
shr_z_exact m (pos a) h = ap pos (mul-div_right a h)
shr_z_exact m (negsuc a) h =
    let e : m * suc a ≡ suc (a * m + (m - 1)) = omega arith in
    rw e (ap negsuc (div-eq_of_lt-le m (omega arith) (omega arith)))

-- it makes no number larger
pub shr_z_small : (z : ℤ) (m : ℕ) → nat_abs (shr_z z m) ≤ nat_abs z
shr_z_small (pos a) m = div-le_self a m
shr_z_small (negsuc a) m = omega (arith, div-le_self a m)
