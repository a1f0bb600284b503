-- The magnitude of an integer.
use Rattle.std.specs.Prelude.{◌≡◌, ◌+◌, ◌*◌, ◌^◌, ◌≤◌, ◌<◌, ◌+ℤ◌, ◌-ℤ◌, ◌*ℤ◌}
use Rattle.integers.specs.Kit.{refl, sym, subst, true, false, zero, suc, T, ℤ, pos, negsuc, neg_ℤ, nat_abs}
use native.Mathlib.Omega.{arith}
use native.Mathlib.Nat.{add-zero, zero-add, le_refl, le-suc, lt_of_le_of_lt, not-suc-le-zero}
use lib.IntN.{+ℤ_idl}
use lib.Signed.{mag, lt_z, non_neg}
use mir.Syntax.{Width}
use mir.Val.{SFits, hbits}
use borrow.Author.Tests.{ltb-true}
use Rattle.integers.proofs.Integer.{up, down, add_parts, dif_nat_abs}

pub nat_abs_neg : (a : ℤ) → nat_abs (neg_ℤ a) ≡ nat_abs a
nat_abs_neg (pos zero) = refl
nat_abs_neg (pos (suc n)) = refl
nat_abs_neg (negsuc n) = refl

pub nat_abs_mul : (a b : ℤ) → nat_abs (a *ℤ b) ≡ nat_abs a * nat_abs b
nat_abs_mul (pos a) (pos b) = refl
nat_abs_mul (pos a) (negsuc b) = nat_abs_neg (pos (a * suc b))
nat_abs_mul (negsuc a) (pos b) = nat_abs_neg (pos (suc a * b))
nat_abs_mul (negsuc a) (negsuc b) = refl

nat_abs-parts : (a : ℤ) → nat_abs a ≡ up a + down a
nat_abs-parts (pos n) = sym (add-zero n)
nat_abs-parts (negsuc n) = sym (zero-add (suc n))

pub nat_abs-add : (a b : ℤ) → nat_abs (a +ℤ b) ≤ nat_abs a + nat_abs b
nat_abs-add a b =
    rw (nat_abs-parts a, nat_abs-parts b, add_parts a b) ((dif_nat_abs _ _ _).1 (omega arith))

pub nat_abs_sub : (a b : ℤ) → nat_abs (a -ℤ b) ≤ nat_abs a + nat_abs b
nat_abs_sub a b = rw (nat_abs_neg b) at (nat_abs-add a (neg_ℤ b))

mag_le : (a : ℤ) → mag a ≤ nat_abs a
mag_le (pos n) = le_refl n
mag_le (negsuc n) = le-suc n

-- an integer whose magnitude is below half of the width's power fits the width
pub small_fits : (w : Width) (a : ℤ) → nat_abs a < 2 ^ hbits w → SFits w a
small_fits w a h = record { sfits = lt_of_le_of_lt (mag_le a) h }

-- a number below 0 is the negative of its magnitude, and any other is its magnitude

pub negated : (z : ℤ) → lt_z z (pos 0) ≡ true → pos 0 -ℤ z ≡ pos (nat_abs z)
negated (pos n) e = absurd (not-suc-le-zero (ltb-true n 0 e))
negated (negsuc n) e = +ℤ_idl (pos (suc n))

pub itself : (z : ℤ) → lt_z z (pos 0) ≡ false → z ≡ pos (nat_abs z)
itself (pos n) e = refl
itself (negsuc n) e = absurd (subst T e tt)

pub not_negative : (z : ℤ) → lt_z z (pos 0) ≡ false → T (non_neg z)
not_negative z e = subst (λ w. T (non_neg w)) (sym (itself z e)) tt
