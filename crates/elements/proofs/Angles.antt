-- A cosine c_m, for m no multiple of 8, is one of c_1 to c_7 or its negative: what that makes of a product of a whole number with it, and of the
-- component along it.
use Rattle.std.specs.Prelude.{◌≡◌, ◌||◌, ◌%◌, ◌≤◌, ◌<◌, ◌*ℤ◌}
use Rattle.integers.specs.Kit.{refl, sym, ap, ◌∙◌, Bool, true, false, cond, List, ℕ, T, eqb, ltb, ℤ, pos, neg_ℤ, nat_abs}
use native.Mathlib.Nat.{le_of_eq, le_trans}
use native.Mathlib.Omega.{arith}
use lib.IntN.{*ℤ_comm}
use borrow.Author.Tests.{ne_eqb}
use Rattle.integers.specs.Test.{every, eq_z, eq_list}
use Rattle.integers.proofs.Integer.{*ℤ_pos1, *ℤ-minus-one}
use Rattle.integers.proofs.Magnitudes.{nat_abs_neg}
use Rattle.integers.proofs.Signed.{in32}
use Rattle.integers.proofs.Tests.{every-at, eq_z→≡, eq_list→≡}
use Rattle.ring.specs.Element.{component, scale, only, integer, full_turn, cosine, mul, Eight}
use Rattle.ring.specs.Maps.{dot}
use Rattle.ring.proofs.Linear.{linear_self}
use Rattle.ring.proofs.Components.{eight_cosine, form_component, linear_same}
use Rattle.ring.proofs.Forms.{form_times}
use Rattle.ring.proofs.Dots.{form_dot}
use Rattle.ring.proofs.Ring.{mul-integer, scale-only}
use Rattle.elements.specs.Angle.{index, signed}
use Rattle.elements.specs.Bound.{headroom}
use Rattle.elements.proofs.Bounds.{held}

-- the sign as a factor, and that it keeps a magnitude

signed-times : (s : ℤ) (m : ℕ) → signed s m ≡ s *ℤ signed (pos 1) m
signed-times s m = go (ltb (m % 32) 8) (ltb (m % 32) 24)
  where
    go : (a b : Bool) → cond a s (cond b (neg_ℤ s) s) ≡ s *ℤ cond a (pos 1) (cond b (neg_ℤ (pos 1)) (pos 1))
    go true b = sym (*ℤ_pos1 s)
    go false true = sym (*ℤ-minus-one s)
    go false false = sym (*ℤ_pos1 s)

pub signed_size : (s : ℤ) (m : ℕ) → nat_abs (signed s m) ≡ nat_abs s
signed_size s m = go (ltb (m % 32) 8) (ltb (m % 32) 24)
  where
    go : (a b : Bool) → nat_abs (cond a s (cond b (neg_ℤ s) s)) ≡ nat_abs s
    go true b = refl
    go false true = nat_abs_neg s
    go false false = refl

-- a signed number, as the code reads it back
pub signed_held : (u : ℤ) (m : ℕ) {r z : ℤ} → nat_abs u ≤ headroom → z ≡ u → r ≡ signed z m → in32 r ≡ signed u m
signed_held u m l q e = held (e ∙ ap (λ z. signed z m) q) (le_trans (le_of_eq (signed_size u m)) l)

-- the 32 steps of a turn

cosine-at : ℕ → Bool
cosine-at r = eq_list (full_turn r) (only (signed (pos 1) r) (index r))

cosine_test : T (every 32 (λ r. eqb (r % 8) 0 || cosine-at r))
unfolding cosine-at
cosine_test = tt

dot_at : ℕ → ℕ → Bool
dot_at r k = eq_z (dot (only (pos 1) k) (full_turn r)) (signed (pos 1) r *ℤ component (only (pos 1) k) (index r))

dot_test : T (every 32 (λ r. eqb (r % 8) 0 || every 8 (dot_at r)))
unfolding dot_at
dot_test = tt

module _ (m : ℕ) (h : 0 < m % 8) where
  passes : (f : ℕ → Bool) → T (every 32 (λ r. eqb (r % 8) 0 || f r)) → T (f (m % 32))
  passes f t = rw (ne_eqb (m % 32 % 8) 0 (λ q. omega arith)) at (every-at 32 (λ r. eqb (r % 8) 0 || f r) t (m % 32) (omega arith))

  same_sign : (s : ℤ) → signed s (m % 32) ≡ signed s m
  same_sign s = let e : m % 32 % 32 ≡ m % 32 = omega arith in rw e

  same_index : index (m % 32) ≡ index m
  same_index = let e : m % 32 % 16 ≡ m % 16 = omega arith in rw e

  -- s × c_m
  pub integer-times : (s : ℤ) → only (signed s m) (index m) ≡ mul (integer s) (cosine (pos m))
  unfolding cosine-at cosine
  integer-times s =
      ap (λ z. only z (index m)) (signed-times s m) ∙ sym (scale-only s (signed (pos 1) m) (index m))
      ∙ ap (scale s) (sym (rw (same_sign (pos 1), same_index) at turn)) ∙ sym (mul-integer s (eight_cosine (pos m)))
    where
      turn : full_turn (m % 32) ≡ only (signed (pos 1) (m % 32)) (index (m % 32))
      turn = eq_list→≡ _ _ (passes cosine-at cosine_test)

  pub dot_is : {a : List ℤ} → Eight a → signed (component a (index m)) m ≡ dot a (cosine (pos m))
  unfolding dot_at cosine
  dot_is {a} e =
      signed-times (component a (index m)) m ∙ *ℤ_comm (component a (index m)) (signed (pos 1) m) ∙ sym (rw (same_sign (pos 1), same_index) at form)
    where
      r : ℕ
      r = m % 32

      form : dot a (full_turn (m % 32)) ≡ signed (pos 1) (m % 32) *ℤ component a (index (m % 32))
      form =
          linear_same (λ b. dot b (full_turn r)) (λ b. signed (pos 1) r *ℤ component b (index r)) (form_dot (full_turn r))
          (form_times (signed (pos 1) r) (form_component (λ b. b) linear_self (index r)))
          (λ k l. eq_z→≡ _ _ (every-at 8 (dot_at r) (passes (λ r. every 8 (dot_at r)) dot_test) k l)) e
