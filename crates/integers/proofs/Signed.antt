-- Signed numbers in code. A signed local holds bits: what is read back of a number z is `to_z w (of_z w z)`, which is z where z fits the
-- width w. These laws hide that.
use Rattle.std.specs.Prelude.{◌≡◌, ◌+◌, ◌^◌, ◌≤◌, ◌<◌}
use Rattle.integers.specs.Kit.{ap₂, Bool, ℕ, lit<, ℤ, nat_abs}
use native.Mathlib.Nat.{lt_of_le_of_lt}
use native.Mathlib.Omega.{arith}
use lib.Signed.{lt_z, shr_z, mag_shr, nat_abs-le}
use mir.Syntax.{Width, w32, w64}
use mir.Val.{SFits, hbits, of_z, to_z}
use mir.ValLaws.{to_z-of_z}
use Rattle.integers.proofs.Magnitudes.{small_fits}

-- a number as it is read back from the bits of an i32 and of an i64
abbrev pub in32 : ℤ → ℤ
in32 z = to_z w32 (of_z w32 z)

abbrev pub in64 : ℤ → ℤ
in64 z = to_z w64 (of_z w64 z)

-- it is the number itself where that fits
pub read_i32 : (z : ℤ) → SFits w32 z → in32 z ≡ z
read_i32 z h = to_z-of_z w32 z h

pub read_i64 : (z : ℤ) → SFits w64 z → in64 z ≡ z
read_i64 z h = to_z-of_z w64 z h

pub kept : (w : Width) (z : ℤ) → nat_abs z < 2 ^ hbits w → to_z w (of_z w z) ≡ z
kept w z h = to_z-of_z w z (small_fits w z h)

-- a comparison of two i32 as they are read
pub compared : (x y : ℤ) {t : Bool} → SFits w32 x → SFits w32 y → lt_z (in32 x) (in32 y) ≡ t → lt_z x y ≡ t
compared x y h k e = rw (read_i32 x h, read_i32 y k) at e

-- divided by m and rounded down, as a shift does it
pub shift_kept : (w : Width) (z : ℤ) (m : ℕ) → SFits w z → to_z w (of_z w (shr_z (to_z w (of_z w z)) m)) ≡ shr_z z m
shift_kept w z m h = rw (to_z-of_z w z h) (to_z-of_z w (shr_z z m) (record { sfits = lt_of_le_of_lt (mag_shr z m) h.sfits }))

-- a sum or a difference, of operands that are at most half of the range

module _ (op : ℤ → ℤ → ℤ) (small : (x y : ℤ) → nat_abs (op x y) ≤ nat_abs x + nat_abs y)
    (w : Width) {B : ℕ} (half : B + B < 2 ^ hbits w) (x y : ℤ) (hx : nat_abs x ≤ B) (hy : nat_abs y ≤ B) where
  read : op (to_z w (of_z w x)) (to_z w (of_z w y)) ≡ op x y
  read = ap₂ op (kept w x (omega arith)) (kept w y (omega arith))

  -- the operation asks that its result fits
  pub op_fits : SFits w (op (to_z w (of_z w x)) (to_z w (of_z w y)))
  op_fits = rw read (small_fits w (op x y) (omega (arith, small x y)))

  -- the result r, as it is read back
  pub op_kept : {r : ℤ} → r ≡ op (to_z w (of_z w x)) (to_z w (of_z w y)) → to_z w (of_z w r) ≡ op x y
  op_kept e = rw (e, read) (kept w (op x y) (omega (arith, small x y)))

-- an i32 in an i64

module _ (x : ℤ) (h : SFits w32 x) where
  size : nat_abs x < 2 ^ hbits w64
  size = lt_of_le_of_lt (nat_abs-le x h.sfits) (lit< tt)

  pub wide_fits : SFits w64 (to_z w32 (of_z w32 x))
  wide_fits = rw (to_z-of_z w32 x h) (small_fits w64 x size)

  pub wide_kept : to_z w64 (of_z w64 (to_z w32 (of_z w32 x))) ≡ x
  wide_kept = rw (to_z-of_z w32 x h) (kept w64 x size)
