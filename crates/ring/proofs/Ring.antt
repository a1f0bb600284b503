-- 0, 1 and the whole numbers among the elements. `Linear` and `Product` have the ring's other laws, for lists of any length; those that
-- name 0 or 1 hold of elements with all of their components.
use Rattle.std.specs.Prelude.{◌≡◌, ◌*ℤ◌}
use Rattle.integers.specs.Kit.{refl, sym, ap, ◌∙◌, Bool, true, false, cond, List, ℕ, T, ℤ, pos, negsuc}
use lib.IntN.{+ℤ_idl, zero-*ℤ, *ℤ-zero}
use Rattle.integers.specs.Test.{every, eq_list}
use Rattle.integers.proofs.Integer.{*ℤ_pos1}
use Rattle.integers.proofs.Tests.{every-at, eq_list→≡}
use Rattle.ring.specs.Element.{add, scale, negate, only, integer, cosine, basis_product, mul, Eight}
use Rattle.ring.proofs.Linear.{linear_self, add_comm, add_assoc, add-scale, scale_one}
use Rattle.ring.proofs.Product.{mul_left, mul_right}
use Rattle.ring.proofs.Components.{eight_scale, by_components, linear_same}

one_at : ℕ → Bool
one_at k = eq_list (mul (integer (pos 1)) (only (pos 1) k)) (only (pos 1) k)

one_test : T (every 8 one_at)
unfolding one_at cosine basis_product mul
one_test = tt

pub mul-one : {a : List ℤ} → Eight a → mul (integer (pos 1)) a ≡ a
unfolding one_at
mul-one e =
    linear_same (mul (integer (pos 1))) (λ b. b) (mul_right (integer (pos 1))) linear_self (λ k h. eq_list→≡ _ _ (every-at 8 one_at one_test k h)) e

pub scale_zero : {a : List ℤ} → Eight a → scale (pos 0) a ≡ integer (pos 0)
scale_zero e = rw (by_components e) (simp zero-*ℤ)

pub add-zero : {a : List ℤ} → Eight a → add (integer (pos 0)) a ≡ a
add-zero e = rw (by_components e) (simp +ℤ_idl)

pub add-negative : {a : List ℤ} → Eight a → add a (negate a) ≡ integer (pos 0)
add-negative {a} e =
    ap (λ x. add x (negate a)) (sym (scale_one a)) ∙ sym (add-scale (pos 1) (negsuc 0) a) ∙ scale_zero e

-- the terms of a sum that is 0 are each other's negative
pub negative_of : {a b : List ℤ} → Eight a → Eight b → add a b ≡ integer (pos 0) → a ≡ negate b
negative_of {a} {b} p q e =
    let n = negate b in
    sym (add-zero p) ∙ add_comm (integer (pos 0)) a ∙ ap (add a) (sym (add-negative q)) ∙ sym (add_assoc a b n) ∙ ap (λ x. add x n) e
    ∙ add-zero (eight_scale (negsuc 0) q)

times-cond : (s t : ℤ) (b : Bool) → s *ℤ cond b t (pos 0) ≡ cond b (s *ℤ t) (pos 0)
times-cond s t true = refl
times-cond s t false = *ℤ-zero s

pub scale-only : (s t : ℤ) (k : ℕ) → scale s (only t k) ≡ only (s *ℤ t) k
scale-only s t k = simp times-cond

pub scale-integer : (s t : ℤ) → scale s (integer t) ≡ integer (s *ℤ t)
scale-integer s t = scale-only s t 0

-- a whole number as a factor is a multiple
pub mul-integer : (s : ℤ) {a : List ℤ} → Eight a → mul (integer s) a ≡ scale s a
mul-integer s {a} e =
    ap (λ x. mul x a) (sym (scale-integer s (pos 1) ∙ ap integer (*ℤ_pos1 s))) ∙ (mul_left a).multiples s (integer (pos 1)) ∙ ap (scale s) (mul-one e)
