-- The half of an element's components that is 0, as the code finds it, and the terms of N that are left where one is.
use Rattle.std.specs.Prelude.{◌≡◌, ◌||◌, ◌+◌, ◌-◌, ◌%◌, ◌≤◌, ◌<◌, ◌+ℤ◌, ◌*ℤ◌}
use Rattle.integers.specs.Kit.{refl, sym, ◌∙◌, Bool, true, false, List, ℕ, suc, ℤ, pos, length}
use native.Mathlib.Decide.{dec_lt, ℕ_discrete}
use native.Mathlib.Omega.{arith}
use lib.IntN.{+ℤ_idr, *ℤ-zero}
use lib.ListN.{get_or-eq_default}
use mir.Syntax.{w64}
use mir.Val.{to_z}
use Rattle.integers.proofs.Signed.{in32, in64}
use Rattle.ring.specs.Element.{component}
use Rattle.rounding_error.specs.Width.{numerator}
use Rattle.coefficients.specs.Preconditions.{partial, HalfZero, Terms, all, odds, evens}
use Rattle.coefficients.proofs.Sizes.{Allowed, partial_more, partial-all}
use Rattle.coefficients.proofs.Steps.{next_step, step_kept}

-- what the loop over a half knows at its index k: r says whether a component that it passed is not 0
pub record Looked (h : ℕ) (u : List ℤ) (k : ℕ) (r : Bool) : Type 0 where
  pub some : 0 < k
  pub remainder : k % 2 ≡ h
  pub zero : r ≡ false → (j : ℕ) → 0 < j → j < k → j % 2 ≡ h → component u j ≡ pos 0

pub looked_none : {h : ℕ} {u : List ℤ} → h < 2 → Looked h u (2 - h) false
looked_none l = record { some = omega arith; remainder = omega arith; zero = λ e j p q s. absurd (omega arith) }

pub looked_more : {h : ℕ} {u : List ℤ} {k : ℕ} {r t : Bool} → Looked h u k r → (t ≡ false → component u k ≡ pos 0) → Looked h u (k + 2) (r || t)
looked_more {h} {u} {k} {r} {t} L z = record { some = omega arith; remainder = omega (arith, L.remainder); zero = go r L.zero }
  where
    go : (r : Bool) → (r ≡ false → (j : ℕ) → 0 < j → j < k → j % 2 ≡ h → component u j ≡ pos 0)
        → (r || t) ≡ false → (j : ℕ) → 0 < j → j < k + 2 → j % 2 ≡ h → component u j ≡ pos 0
    go true before e j p q s = cc
    go false before e j p q s = here (ℕ_discrete j k)
      where
        here : Dec (j ≡ k) → component u j ≡ pos 0
        here (yes d) = rw d (z e)
        here (no d) = before refl j p (omega (arith, L.remainder)) s

pub looked_all : {h : ℕ} {u : List ℤ} {k : ℕ} {r : Bool} → length u ≡ 8 → 8 ≤ k → Looked h u k r → r ≡ false → HalfZero h u
looked_all {h} {u} size l L e = record { at = λ j p s. go j p s (dec_lt j 8) }
  where
    go : (j : ℕ) → 0 < j → j % 2 ≡ h → Dec (j < 8) → component u j ≡ pos 0
    go j p s (yes q) = L.zero e j p (omega arith) s
    go j p s (no q) = get_or-eq_default u (pos 0) (omega arith)

-- the terms

-- what the sum knows at its index k: n is the sum of all terms before
pub record Summed (b : ℕ) (m u : List ℤ) (first step k : ℕ) (n : ℤ) : Type 0 where
  pub room : k ≤ 6 + step
  pub phase : step ≡ 2 → k % 2 ≡ first
  pub value : n ≡ partial b m u k

module _ (b : ℕ) (m u : List ℤ) where
  -- a component of 0 adds nothing
  passed_over : (k : ℕ) → component u (suc k) ≡ pos 0 → partial b m u (suc k) ≡ partial b m u k
  passed_over k e = partial_more b m u k ∙ rw (e, *ℤ-zero, +ℤ_idr)

  pub summed_none : {first step : ℕ} {n : ℤ} → Terms u first step → n ≡ partial b m u 0 → Summed b m u first step first n
  summed_none all e = record { room = omega arith; phase = λ s. absurd (omega arith); value = e }
  summed_none (odds Z) e = record { room = omega arith; phase = λ s. refl; value = e }
  summed_none (evens Z) e = record { room = omega arith; phase = λ s. refl; value = e ∙ sym (passed_over 0 (Z.at 1 (omega arith) refl)) }

  -- one term more, and past the next
  past : {h k : ℕ} {n p : ℤ} → HalfZero h u → k < 7 → Summed b m u h 2 k n → p ≡ partial b m u (k + 1) → Summed b m u h 2 (k + 2) p
  past {k = k} Z l S e =
      let one : k + 1 ≡ suc k = omega arith in
      let two : k + 2 ≡ suc (suc k) = omega arith in
      record {
        room = omega arith;
        phase = λ s. omega (arith, S.phase refl);
        value = rw two ((rw one at e) ∙ sym (passed_over (suc k) (Z.at (suc (suc k)) (omega arith) (omega (arith, S.phase refl)))));
      }

  summed_more : {first step k : ℕ} {n p : ℤ} → Terms u first step → k < 7 → Summed b m u first step k n → p ≡ partial b m u (k + 1)
      → Summed b m u first step (k + step) p
  summed_more all l S e = record { room = omega arith; phase = λ s. absurd (omega arith); value = e }
  summed_more (odds Z) l S e = past Z l S e
  summed_more (evens Z) l S e = past Z l S e

  -- the sum r with the term at k, as it is read back
  pub summed_next : {first step k : ℕ} {r : ℤ} → Allowed b m u → Terms u first step → k < 7 → (n : ℕ) → Summed b m u first step k (to_z w64 n)
      → r ≡ to_z w64 n +ℤ in64 (component m k) *ℤ in32 (component u (k + 1)) → Summed b m u first step (k + step) (in64 r)
  summed_next A T l n S e = summed_more T l S (step_kept (next_step A _ l n S.value) e)

  pub summed-all : {first step k : ℕ} {n : ℤ} → Terms u first step → 7 ≤ k → Summed b m u first step k n → n ≡ numerator b m u
  summed-all T l S = S.value ∙ last T l S ∙ partial-all b m u
    where
      last : {first step k : ℕ} {n : ℤ} → Terms u first step → 7 ≤ k → Summed b m u first step k n → partial b m u k ≡ partial b m u 7
      last {k = k} all l S = let e : k ≡ 7 = omega (arith, S.room) in rw e
      last {k = k} (odds Z) l S = let e : k ≡ 8 = omega (arith, S.room, S.phase refl) in rw e (passed_over 7 (Z.at 8 (omega arith) refl))
      last {k = k} (evens Z) l S = let e : k ≡ 7 = omega (arith, S.room, S.phase refl) in rw e
