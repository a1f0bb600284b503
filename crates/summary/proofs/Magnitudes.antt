-- The largest of a block's coefficients but the first: in 02's words, and as the loops find it.
use Rattle.std.specs.Prelude.{◌≡◌, ◌+◌, ◌≤◌, ◌<◌, ◌-◌}
use Rattle.integers.specs.Kit.{refl, sym, ap, subst, ◌∙◌, Bool, cond, List, ℕ, zero, suc, T, ltb, lit<, lit≤, ℤ, pos, negsuc, nat_abs}
use native.Mathlib.Decide.{ℕ_discrete}
use native.Mathlib.Nat.{lt_of_lt_of_le, not-suc-le-zero}
use native.Mathlib.Omega.{arith}
use borrow.Author.Tests.{lt-ltb, le-ltb, ltb-false, ltb-true}
use Rattle.integers.specs.Test.{eq_z}
use Rattle.integers.proofs.Foremost.{Order, higher-first, Best, BestValue, range_best, foremost-first, is_foremost, best_value-first, best_value_next, best_value-foremost}
use Rattle.integers.proofs.Tests.{holds, fails, every-at, every_passes, eq_z→≡}
use Rattle.limits.specs.Limits.{places}
use Rattle.floats.specs.Fraction.{coefficient_float, mean_grey}
use Rattle.summary.specs.declared.Grey.TheVariants.{Flat, Textured}
use Rattle.summary.specs.Summary.{LargestOther, given, magnitude_at, is_flat, larger, largest_place, block_summary}
use Rattle.to_floats.specs.ToFloats.{coefficient_at}

zero_magnitude : (z : ℤ) → nat_abs z ≤ 0 → z ≡ pos 0
zero_magnitude (pos n) h = ap pos (omega arith)
zero_magnitude (negsuc n) h = absurd (not-suc-le-zero h)

below : {a b : ℕ} → a ≤ b → (a ≡ b → ⊥) → a < b
below h n = omega arith

module _ (y : List ℤ) where
  by_magnitude : Order (larger y)
  by_magnitude = higher-first (λ p. pos (magnitude_at y p))

  -- the largest place is the one of 02's words

  largest_best : Best 1 (larger y) places (largest_place y)
  largest_best = range_best by_magnitude (lit< tt)

  most : (q : ℕ) → 0 < q → q < places → magnitude_at y q ≤ magnitude_at y (largest_place y)
  most q h l = ltb-false (magnitude_at y (largest_place y)) (magnitude_at y q) (largest_best.none_before q h l)

  pub largest_other : LargestOther y (largest_place y)
  largest_other = record {
    not_first = largest_best.from;
    in_block = largest_best.below;
    none_larger = most;
    none_before = λ q h l. ltb-true (magnitude_at y q) (magnitude_at y (largest_place y)) (foremost-first by_magnitude largest_best q h l);
  }

  -- and no other place is
  pub only-largest : {p : ℕ} → LargestOther y p → p ≡ largest_place y
  only-largest {p} L =
      sym (is_foremost by_magnitude
      (record { from = L.not_first; below = L.in_block; none_before = λ q h k. le-ltb (magnitude_at y p) (magnitude_at y q) (L.none_larger q h k) })
      (λ q h k. lt-ltb (magnitude_at y q) (magnitude_at y p) (L.none_before q h k)))

  -- the loop that keeps the largest magnitude so far

  pub record Largest (p m : ℕ) : Type 0 where
    pub room : p ≤ places
    pub best_value : BestValue 1 (larger y) (magnitude_at y) p m

  pub largest-one : Largest 2 (magnitude_at y 1)
  largest-one = record { room = lit≤ tt; best_value = best_value-first by_magnitude 1 refl }

  pub largest_more : {p m : ℕ} → p < places → Largest p m → Largest (p + 1) (cond (ltb m (magnitude_at y p)) (magnitude_at y p) m)
  largest_more {p} h K =
      record { room = omega arith; best_value = best_value_next by_magnitude K.best_value refl (ap (λ m. ltb m (magnitude_at y p)) K.best_value.has) }

  pub largest-all : {p m : ℕ} → places ≤ p → Largest p m → m ≡ magnitude_at y (largest_place y)
  largest-all {p} {m} h K =
      let e : p ≡ places = omega (arith, K.room) in
      best_value-foremost by_magnitude
      (λ p q h k. let a = ltb-false (magnitude_at y q) (magnitude_at y p) h in let b = ltb-false (magnitude_at y p) (magnitude_at y q) k in omega arith)
      (subst (λ p. BestValue 1 (larger y) (magnitude_at y) p m) e K.best_value)

  -- the first place that has the largest magnitude is the largest place

  abbrev has_largest : ℕ → Type 0
  has_largest p = magnitude_at y p ≡ magnitude_at y (largest_place y)

  -- the places before p, but the first, have another: what the search knows at p
  pub record Before (p : ℕ) : Type 0 where
    pub some : 0 < p
    pub room : p ≤ places
    pub others : (q : ℕ) → 0 < q → q < p → has_largest q → ⊥

  pub before_first : Before 1
  before_first = record { some = lit< tt; room = lit≤ tt; others = λ q h l e. omega arith }

  pub before_more : {p : ℕ} → p < places → Before p → (has_largest p → ⊥) → Before (p + 1)
  before_more {p} l B x = let h = B.some in record { some = omega arith; room = omega arith; others = λ q h l. go q h l (ℕ_discrete q p) }
    where
      go : (q : ℕ) → 0 < q → q < p + 1 → Dec (q ≡ p) → has_largest q → ⊥
      go q h l (yes z) e = x (rw z at e)
      go q h l (no z) e = B.others q h (omega arith) e

  pub found_place : (p : ℕ) → p < places → Before p → has_largest p → p ≡ largest_place y
  found_place p l B same =
      only-largest (record {
        not_first = B.some;
        in_block = l;
        none_larger = top;
        none_before = λ q h k. below (top q h (omega arith)) (λ z. B.others q h k (z ∙ same));
      })
    where
      top : (q : ℕ) → 0 < q → q < places → magnitude_at y q ≤ magnitude_at y p
      top q h l = rw same (most q h l)

  -- so the search does not come to the end
  pub not_before : {p : ℕ} → places ≤ p → Before p → ⊥
  not_before {p} h B = B.others (largest_place y) largest_best.from (lt_of_lt_of_le largest_best.below h) refl

  -- a block is flat exactly when its other coefficients are 0

  abbrev zero_after : ℕ → Bool
  zero_after k = eq_z (coefficient_at y (suc k)) (pos 0)

  pub zeros : T (is_flat y) → (p : ℕ) → 0 < p → p < places → coefficient_at y p ≡ pos 0
  zeros t zero h l = absurd (not-suc-le-zero h)
  zeros t (suc k) h l = eq_z→≡ _ _ (every-at (places - 1) zero_after t k (omega arith))

  pub flat_by_zeros : ((p : ℕ) → 0 < p → p < places → coefficient_at y p ≡ pos 0) → T (is_flat y)
  flat_by_zeros z = every_passes (places - 1) zero_after (λ k h. rw (z (suc k) (omega arith) (omega arith)) tt)

  -- so when the largest magnitude of these is 0
  module _ {m : ℕ} (e : m ≡ magnitude_at y (largest_place y)) where
    pub flat_block : m ≡ 0 → given (Flat (mean_grey (coefficient_at y 0))) ≡ block_summary y
    flat_block z = rw (holds (is_flat y) (flat_by_zeros (λ p h l. zero_magnitude (coefficient_at y p) (rw (sym e ∙ z) at (most p h l)))))

    pub textured-block : (m ≡ 0 → ⊥) → given (Textured (mean_grey (coefficient_at y 0)) (coefficient_float (coefficient_at y (largest_place y)))) ≡ block_summary y
    textured-block x = rw (fails (is_flat y) (λ t. x (e ∙ ap nat_abs (zeros t (largest_place y) largest_best.from largest_best.below))))
