-- Conjugation is an automorphism of the ring: it is linear, it takes products to products, it fixes the whole numbers, and eight of it change nothing.
use Rattle.std.specs.Prelude.{◌≡◌, ◌∷◌, ◌<◌}
use Rattle.integers.specs.Kit.{sym, ap, ◌∙◌, Bool, List, [], ℕ, T, ℤ, pos, neg_ℤ}
use lib.IntN.{+ℤ_idl, +ℤ_idr, *ℤ-zero}
use Rattle.integers.specs.Table.{table}
use Rattle.integers.specs.Test.{every, eq_list, every₂}
use Rattle.integers.proofs.Integer.{*ℤ_pos1, *ℤ-minus-one}
use Rattle.integers.proofs.Tests.{every-at, every₂-at, eq_list→≡}
use Rattle.ring.specs.Element.{component, only, integer, cosine, basis_product, mul, Eight}
use Rattle.ring.specs.Maps.{fivefold, conjugate, four_conjugates, LinearMap}
use Rattle.ring.proofs.Linear.{linear_self, linear_after, linear_combination}
use Rattle.ring.proofs.Product.{mul_left, mul_right}
use Rattle.ring.proofs.Components.{by_components, linear_same}
use Rattle.ring.proofs.Ring.{scale-integer}

pub linear_conjugate : LinearMap conjugate
unfolding conjugate
linear_conjugate = linear_combination fivefold

-- products: by a test over the basis elements, and linearity

pair_at : ℕ → ℕ → Bool
pair_at i j = eq_list (conjugate (mul (only (pos 1) i) (only (pos 1) j))) (mul (conjugate (only (pos 1) i)) (conjugate (only (pos 1) j)))

pair_test : T (every₂ 8 pair_at)
unfolding pair_at conjugate cosine basis_product mul
pair_test = tt

pub conjugate-product : {a b : List ℤ} → Eight a → Eight b → conjugate (mul a b) ≡ mul (conjugate a) (conjugate b)
unfolding pair_at
conjugate-product {a} {b} p q =
    linear_same (λ y. conjugate (mul a y)) (λ y. mul (conjugate a) (conjugate y)) (linear_after linear_conjugate (mul_right a))
    (linear_after (mul_right (conjugate a)) linear_conjugate) (λ j h. basis j h) q
  where
    basis : (j : ℕ) → j < 8 → conjugate (mul a (only (pos 1) j)) ≡ mul (conjugate a) (conjugate (only (pos 1) j))
    basis j h =
        let c = only (pos 1) j in
        linear_same (λ x. conjugate (mul x c)) (λ x. mul (conjugate x) (conjugate c)) (linear_after linear_conjugate (mul_left c))
        (linear_after (mul_left (conjugate c)) linear_conjugate) (λ i l. eq_list→≡ _ _ (every₂-at 8 pair_at pair_test i j l h)) p

pub conjugate-integer : (s : ℤ) → conjugate (integer s) ≡ integer s
unfolding conjugate cosine
conjugate-integer s =
    ap conjugate (sym (scale-integer s (pos 1) ∙ ap integer (*ℤ_pos1 s))) ∙ linear_conjugate.multiples s (integer (pos 1)) ∙ scale-integer s (pos 1)
    ∙ ap integer (*ℤ_pos1 s)

-- component by component
conjugate-table : (u : ℕ → ℤ) → conjugate (table 8 u) ≡ u 0 ∷ neg_ℤ (u 3) ∷ u 6 ∷ u 7 ∷ neg_ℤ (u 4) ∷ u 1 ∷ neg_ℤ (u 2) ∷ u 5 ∷ []
unfolding conjugate cosine
conjugate-table u = simp (*ℤ-zero, *ℤ_pos1, *ℤ-minus-one, +ℤ_idl, +ℤ_idr)

pub conjugate_components : {a : List ℤ} → Eight a → conjugate a
    ≡ component a 0 ∷ neg_ℤ (component a 3) ∷ component a 6 ∷ component a 7 ∷ neg_ℤ (component a 4) ∷ component a 1 ∷ neg_ℤ (component a 2) ∷ component a 5 ∷ []
conjugate_components {a} e = ap conjugate (by_components e) ∙ conjugate-table (component a)

-- it has an inverse: seven more of it

linear_four : LinearMap four_conjugates
linear_four = let twice = linear_after linear_conjugate linear_conjugate in linear_after twice twice

basis_test : T (every 8 (λ k. eq_list (four_conjugates (four_conjugates (only (pos 1) k))) (only (pos 1) k)))
unfolding conjugate cosine
basis_test = tt

pub conjugate_eight_times : {a : List ℤ} → Eight a → four_conjugates (four_conjugates a) ≡ a
conjugate_eight_times =
    linear_same (λ a. four_conjugates (four_conjugates a)) (λ a. a) (linear_after linear_four linear_four) linear_self
    (λ k h. eq_list→≡ _ _ (every-at 8 (λ k. eq_list (four_conjugates (four_conjugates (only (pos 1) k))) (only (pos 1) k)) basis_test k h))
