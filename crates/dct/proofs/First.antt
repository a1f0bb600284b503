-- The first element of a block of two dimensions is twice the sum of its samples, and nothing else (02, request 5).
use Rattle.std.specs.Prelude.{◌≡◌, ◌^◌, ◌+ℤ◌, ◌*ℤ◌}
use Rattle.integers.specs.Kit.{refl, sym, ap, ◌∙◌, [], ℕ, ℤ, pos}
use lib.IntN.{zero-*ℤ}
use Rattle.integers.specs.Sum.{sum}
use Rattle.integers.proofs.Integer.{+ℤ-*ℤ}
use Rattle.integers.proofs.Sums.{sum_cong, sum_map}
use Rattle.ring.specs.Element.{component, add, scale, integer, cosine, basis_product, mul}
use Rattle.ring.proofs.Components.{component-add, component-scale}
use Rattle.dct.specs.Transform.{factor, factors, factors_by, element, element_by}

-- c_4 × c_4 = 2, whichever the sample, since 0 has the digits 0 and 0, and t(0,n) is c_4 for each n
first-factors : (q : ℕ) → factors 2 0 q ≡ integer (pos 2)
unfolding factors_by factor cosine mul basis_product
first-factors q = refl

pub first-element : (x : ℕ → ℤ) (k : ℕ) → component (element 2 x 0) k ≡ sum (pos 0) ◌+ℤ◌ (8 ^ 2) x *ℤ component (integer (pos 2)) k
unfolding element_by
first-element x k =
    let two = component (integer (pos 2)) k in
    sum_map [] add (pos 0) ◌+ℤ◌ (λ a. component a k) refl (λ a b. component-add a b k) (8 ^ 2) (λ q. scale (x q) (factors 2 0 q))
    ∙ sum_cong (pos 0) ◌+ℤ◌ (8 ^ 2) _ (λ q. x q *ℤ two)
    (λ q h. component-scale (x q) (factors 2 0 q) k ∙ ap (λ a. x q *ℤ component a k) (first-factors q))
    ∙ sym (sum_map (pos 0) ◌+ℤ◌ (pos 0) ◌+ℤ◌ (λ z. z *ℤ two) (zero-*ℤ two) (λ a b. +ℤ-*ℤ a b two) (8 ^ 2) x)
