-- Ranges: what a number is that does not lie outside one, by its magnitude; and what a search for one that does reads.
use Rattle.std.specs.Prelude.{◌≡◌, ◌||◌, ◌≤◌}
use Rattle.integers.specs.Kit.{refl, sym, ◌∙◌, Bool, true, false, ℕ, zero, suc, ltb, ℤ, pos, negsuc, neg_ℤ, nat_abs}
use Prim.Native.Nat.{zero-le}
use native.Mathlib.Nat.{zero-lt-suc}
use native.Mathlib.Omega.{arith}
use lib.Dec.{leb-suc-suc}
use lib.Signed.{mag, nat_abs-le}
use mir.Syntax.{w32}
use mir.Val.{SFits}
use borrow.Author.Tests.{lt-ltb, le-ltb, ltb-false}
use Rattle.integers.specs.Range.{outside, beyond}
use Rattle.integers.proofs.Signed.{in32, read_i32}

or-false : (b : Bool) → (b || false) ≡ b
or-false true = refl
or-false false = refl

-- a number is beyond a limit where its magnitude is above it
pub beyond-magnitude : (L : ℕ) (z : ℤ) → beyond L z ≡ ltb L (nat_abs z)
beyond-magnitude zero (pos n) = rw (le-ltb n 0 zero-le)
beyond-magnitude (suc M) (pos n) = refl
beyond-magnitude zero (negsuc n) = sym (lt-ltb 0 (suc n) (zero-lt-suc n))
beyond-magnitude (suc M) (negsuc n) = or-false (ltb M n) ∙ sym (leb-suc-suc (suc M) n)

module _ (L : ℕ) (z : ℤ) where
  pub not_beyond : nat_abs z ≤ L → beyond L z ≡ false
  not_beyond h = beyond-magnitude L z ∙ le-ltb L (nat_abs z) h

  pub within_limit : beyond L z ≡ false → nat_abs z ≤ L
  within_limit e = ltb-false L (nat_abs z) (sym (beyond-magnitude L z) ∙ e)

-- the range from -(M + 1) to M, that of a signed number

module _ (M : ℕ) where
  pub inside_mag : (z : ℤ) → outside (neg_ℤ (pos (suc M))) (pos M) z ≡ false → mag z ≤ M
  inside_mag (pos n) e = ltb-false M n e
  inside_mag (negsuc n) e = ltb-false M n (sym (or-false (ltb M n)) ∙ e)

  pub mag_inside : (z : ℤ) → mag z ≤ M → outside (neg_ℤ (pos (suc M))) (pos M) z ≡ false
  mag_inside (pos n) h = le-ltb M n h
  mag_inside (negsuc n) h = rw (le-ltb M n h)

  pub inside_small : (z : ℤ) → outside (neg_ℤ (pos (suc M))) (pos M) z ≡ false → nat_abs z ≤ suc M
  inside_small z e = let h = inside_mag z e in nat_abs-le z (omega arith)

-- the ends of a range, as they are read from their bits
pub ends_read : {A : Type 0} (f : (ℤ → Bool) → A) (lowest highest : ℤ) → SFits w32 lowest → SFits w32 highest
    → f (outside (in32 lowest) (in32 highest)) ≡ f (outside lowest highest)
ends_read f lowest highest hl hh = rw (read_i32 lowest hl, read_i32 highest hh)
