-- The way back: the elements of a block, each times its factors at one place, sum to 16^d times the sample there. So a block is known by
-- its elements. For one dimension the same holds of a row of any elements, in place of samples.
use Rattle.std.specs.Prelude.{◌≡◌, ◌^◌, ◌<◌, ◌+ℤ◌, ◌*ℤ◌}
use Rattle.integers.specs.Kit.{refl, sym, ap, ◌∙◌, List, [], ℕ, ℤ, pos}
use native.Mathlib.Nat.{one-le-pow, zero-lt-suc}
use native.Mathlib.Omega.{arith}
use lib.IntN.{zero-*ℤ}
use Rattle.integers.specs.Sum.{sum}
use Rattle.integers.proofs.Integer.{*ℤ_cancel}
use Rattle.integers.proofs.Sums.{integers, sum_cong, sum_map, sum_swap, sum-only}
use Rattle.ring.specs.Element.{component, add, scale, integer, mul, Eight}
use Rattle.ring.proofs.Linear.{elements, linear_sum}
use Rattle.ring.proofs.Product.{mul_left, mul_right, mul_comm, mul_assoc}
use Rattle.ring.proofs.Components.{eight_only, eight_scale, eight_sum, component-add, component-scale, same_components}
use Rattle.ring.proofs.Ring.{mul-integer, scale-integer}
use Rattle.dct.specs.Inverse.{gram, delta, summed_back, step_back}
use Rattle.dct.specs.Transform.{factor, factors, element, element_by, step, step_by}
use Rattle.dct.proofs.Factors.{eight_factor, eight_factors}
use Rattle.dct.proofs.Orthogonal.{delta-same, delta_other, row_gram, row_gram_is, orthogonal}

-- a matrix t whose Gram matrix is 16^d times the identity: it takes elements x to others, and its transpose takes these to 16^d × x
module _ (d n : ℕ) (t : ℕ → ℕ → List ℤ) (gram_is : (q r : ℕ) → q < n → r < n → sum [] add n (λ p. mul (t p q) (t p r)) ≡ integer (delta d q r))
    (x : ℕ → List ℤ) (eights : (q : ℕ) → q < n → Eight (x q)) (r : ℕ) (h : r < n) where
  term : ℕ → ℕ → List ℤ
  term p q = mul (x q) (mul (t p q) (t p r))

  forth : (p : ℕ) → mul (sum [] add n (λ q. mul (x q) (t p q))) (t p r) ≡ sum [] add n (term p)
  unfolding term
  forth p =
      linear_sum (λ a. mul a (t p r)) (mul_left (t p r)) n (λ q. mul (x q) (t p q)) ∙ sum_cong [] add n _ _ (λ q k. mul_assoc (x q) (t p q) (t p r))

  -- element q, times what t gives for places q and r
  weighed : ℕ → List ℤ
  weighed q = scale (delta d q r) (x q)

  gathered : (q : ℕ) → q < n → sum [] add n (λ p. term p q) ≡ weighed q
  unfolding term weighed
  gathered q k =
      sym (linear_sum (mul (x q)) (mul_right (x q)) n (λ p. mul (t p q) (t p r)))
      ∙ ap (mul (x q)) (gram_is q r k h) ∙ mul_comm (x q) (integer (delta d q r)) ∙ mul-integer (delta d q r) (eights q k)

  component-at : (k : ℕ) → component (sum [] add n weighed) k ≡ component (scale (pos (16 ^ d)) (x r)) k
  unfolding weighed
  component-at k =
      sum_map [] add (pos 0) ◌+ℤ◌ (λ a. component a k) refl (λ a b. component-add a b k) n weighed
      ∙ sum-only (pos 0) ◌+ℤ◌ integers n (λ q. component (weighed q) k) r h
      (λ q l o. component-scale (delta d q r) (x q) k ∙ rw (delta_other d q r o) (zero-*ℤ (component (x q) k)))
      ∙ ap (λ s. component (scale s (x r)) k) (delta-same d r r refl)

  forth_and_back : sum [] add n (λ p. mul (sum [] add n (λ q. mul (x q) (t p q))) (t p r)) ≡ scale (pos (16 ^ d)) (x r)
  unfolding weighed
  forth_and_back =
      sum_cong [] add n _ (λ p. sum [] add n (term p)) (λ p k. forth p) ∙ sum_swap [] add elements n n term ∙ sum_cong [] add n _ weighed gathered
      ∙ same_components (eight_sum n weighed (omega arith) (λ q k. eight_scale (delta d q r) (eights q k))) (eight_scale (pos (16 ^ d)) (eights r h))
      (λ k l. component-at k)

-- a row of elements
pub row_inverse : (x : ℕ → List ℤ) → ((n : ℕ) → n < 8 → Eight (x n)) → (n : ℕ) → n < 8 → step_back (step x) n ≡ scale (pos 16) (x n)
unfolding step_back step_by row_gram
row_inverse x eights n h = forth_and_back 1 8 factor row_gram_is x eights n h

-- a block of samples
pub inverse : (d : ℕ) (x : ℕ → ℤ) (r : ℕ) → r < 8 ^ d → summed_back d (element d x) r ≡ integer (pos (16 ^ d) *ℤ x r)
unfolding summed_back element_by gram
inverse d x r h =
    sum_cong [] add (8 ^ d) _ _
    (λ p k. ap (λ a. mul a (factors d p r)) (sum_cong [] add (8 ^ d) _ _ (λ q l. sym (mul-integer (x q) (eight_factors eight_factor d p q)))))
    ∙ forth_and_back d (8 ^ d) (factors d) (orthogonal d) (λ q. integer (x q)) (λ q k. eight_only (x q) 0) r h ∙ scale-integer (pos (16 ^ d)) (x r)

-- two blocks with the same elements are the same block
pub unique : (d : ℕ) (x y : ℕ → ℤ) → ((p : ℕ) → p < 8 ^ d → element d x p ≡ element d y p) → (r : ℕ) → r < 8 ^ d → x r ≡ y r
unfolding summed_back
unique d x y e r h = *ℤ_cancel (one-le-pow d 16 (zero-lt-suc 15)) (ap (λ a. component a 0) (sym (inverse d x r h) ∙ same ∙ inverse d y r h))
  where
    same : summed_back d (element d x) r ≡ summed_back d (element d y) r
    same = sum_cong [] add (8 ^ d) _ _ (λ p k. ap (λ a. mul a (factors d p r)) (e p k))
