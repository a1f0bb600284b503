-- Conjugate rows: the step of the conjugates of a row is made of the conjugates of its step. A row of whole numbers is its own conjugate, so
-- that one frequency of it gives others.
use Rattle.std.specs.Prelude.{◌≡◌, ◌/◌, ◌%◌, ◌^◌, ◌<◌, ◌*ℤ◌}
use Rattle.integers.specs.Kit.{sym, ap, ap₂, ◌∙◌, Bool, List, [], ℕ, zero, suc, T, ltb, ℤ, pos}
use native.Mathlib.Omega.{arith}
use lib.Dec.{ltb→lt}
use Rattle.integers.specs.Test.{every, eq_list, every₂}
use Rattle.integers.proofs.Sums.{sum_cong}
use Rattle.integers.proofs.Tests.{every-at, every₂-at, eq_list→≡}
use Rattle.ring.specs.Element.{add, scale, integer, cosine, mul, Eight}
use Rattle.ring.specs.Maps.{conjugate}
use Rattle.ring.proofs.Linear.{scale-scale, scale_one, linear_after, linear_scale, linear_sum}
use Rattle.ring.proofs.Product.{mul_left, mul_right}
use Rattle.ring.proofs.Components.{eight_only}
use Rattle.ring.proofs.Conjugates.{linear_conjugate, conjugate-product, conjugate-integer}
use Rattle.dct.specs.Rows.{conjugate_of, conjugate_sign, conjugate_row, conjugates_of, conjugate_signs}
use Rattle.dct.specs.Transform.{factor, factors, factors_by, element, element_by, step, step_by}
use Rattle.dct.proofs.Factors.{eight_factor, eight_factors, factors_frequency, step_cong}

conjugate_of_test : T (every 8 (λ k. ltb (conjugate_of k) 8))
conjugate_of_test = tt

pub conjugate_of-below : (k : ℕ) → k < 8 → conjugate_of k < 8
conjugate_of-below k h = ltb→lt (conjugate_of k) 8 (every-at 8 (λ k. ltb (conjugate_of k) 8) conjugate_of_test k h)

factor-at : ℕ → ℕ → Bool
factor-at k n = eq_list (scale (conjugate_sign k) (conjugate (factor (conjugate_of k) n))) (factor k n)

factor_test : T (every₂ 8 factor-at)
unfolding factor-at factor conjugate cosine
factor_test = tt

factor_is : (k n : ℕ) → k < 8 → n < 8 → scale (conjugate_sign k) (conjugate (factor (conjugate_of k) n)) ≡ factor k n
unfolding factor-at
factor_is k n h l = eq_list→≡ _ _ (every₂-at 8 factor-at factor_test k n h l)

pub conjugate-step : (r : ℕ → List ℤ) → ((n : ℕ) → n < 8 → Eight (r n)) → (k : ℕ) → k < 8 → conjugate_row (step r) k ≡ step (λ n. conjugate (r n)) k
unfolding conjugate_row step_by
conjugate-step r eights k h =
    linear_sum (λ a. scale s (conjugate a)) (linear_after (linear_scale s) linear_conjugate) 8 (λ n. mul (r n) (t n)) ∙ sum_cong [] add 8 _ _ term
  where
    s : ℤ
    s = conjugate_sign k

    t : ℕ → List ℤ
    t n = factor (conjugate_of k) n

    term : (n : ℕ) → n < 8 → scale s (conjugate (mul (r n) (t n))) ≡ mul (conjugate (r n)) (factor k n)
    term n l =
        ap (scale s) (conjugate-product (eights n l) (eight_factor (conjugate_of k) n)) ∙ sym ((mul_right (conjugate (r n))).multiples s (conjugate (t n)))
        ∙ ap (mul (conjugate (r n))) (factor_is k n h l)

pub conjugate_integers : (x : ℕ → ℤ) (k : ℕ) → k < 8 → conjugate_row (step (λ n. integer (x n))) k ≡ step (λ n. integer (x n)) k
conjugate_integers x k h =
    conjugate-step (λ n. integer (x n)) (λ n l. eight_only (x n) 0) k h ∙ step_cong factor (λ n. conjugate (integer (x n))) (λ n. integer (x n)) k (λ n l. conjugate-integer (x n))

-- in d dimensions: an element of a block is, up to its sign, the conjugate of another

factors_are : (d p q : ℕ) → scale (conjugate_signs d p) (conjugate (factors d (conjugates_of d p) q)) ≡ factors d p q
unfolding conjugate_signs conjugates_of factors_by
factors_are zero p q = ap (scale (pos 1)) (conjugate-integer (pos 1)) ∙ scale_one (integer (pos 1))
factors_are (suc d) p q =
    ap (λ a. scale (s *ℤ t) (conjugate a)) (factors_frequency factor d (conjugates_of d (p / 8)) (conjugate_of (p % 8)) q (conjugate_of-below (p % 8) (omega arith)))
    ∙ ap (scale (s *ℤ t)) (conjugate-product (eight_factors eight_factor d (conjugates_of d (p / 8)) (q / 8)) (eight_factor (conjugate_of (p % 8)) (q % 8)))
    ∙ sym (scale-scale s t (mul a b)) ∙ ap (scale s) (sym ((mul_right a).multiples t b)) ∙ sym ((mul_left (scale t b)).multiples s a)
    ∙ ap₂ mul (factors_are d (p / 8) (q / 8)) (factor_is (p % 8) (q % 8) (omega arith) (omega arith))
  where
    s : ℤ
    s = conjugate_signs d (p / 8)

    t : ℤ
    t = conjugate_sign (p % 8)

    a : List ℤ
    a = conjugate (factors d (conjugates_of d (p / 8)) (q / 8))

    b : List ℤ
    b = conjugate (factor (conjugate_of (p % 8)) (q % 8))

pub conjugate_elements : (d : ℕ) (x : ℕ → ℤ) (p : ℕ) → scale (conjugate_signs d p) (conjugate (element d x (conjugates_of d p))) ≡ element d x p
unfolding element_by
conjugate_elements d x p =
    let L = linear_after (linear_scale (conjugate_signs d p)) linear_conjugate in
    linear_sum (λ a. scale (conjugate_signs d p) (conjugate a)) L (8 ^ d) (λ q. scale (x q) (factors d (conjugates_of d p) q))
    ∙ sum_cong [] add (8 ^ d) _ _ (λ q h. L.multiples (x q) (factors d (conjugates_of d p) q) ∙ ap (scale (x q)) (factors_are d p q))
