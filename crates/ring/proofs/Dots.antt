-- The dot product of the components. Component 0 of a × c_m, for m no multiple of 8, is twice the dot product of a and c_m; the dot product with c_k is
-- component k.
use Rattle.std.specs.Prelude.{◌≡◌, ◌||◌, ◌∷◌, ◌%◌, ◌<◌, ◌+ℤ◌, ◌*ℤ◌}
use Rattle.integers.specs.Kit.{refl, sym, ap, ap₂, ◌∙◌, Bool, List, [], ℕ, T, eqb, ℤ, pos, negsuc, neg_ℤ}
use native.Mathlib.Omega.{arith}
use lib.IntN.{+ℤ_comm, +ℤ_assoc, +ℤ_idl, *ℤ-zero, *ℤ_comm}
use borrow.Author.Tests.{ne_eqb}
use Rattle.integers.specs.Test.{every, eq_z}
use Rattle.integers.proofs.Integer.{*ℤ_assoc, *ℤ-+ℤ, +ℤ-*ℤ, minus-one-*ℤ}
use Rattle.integers.proofs.Sums.{swap}
use Rattle.integers.proofs.Tests.{every-at, eq_z→≡}
use Rattle.ring.specs.Element.{component, add, scale, negate, only, full_turn, cosine, basis_product, mul, Eight}
use Rattle.ring.specs.Maps.{dot, LinearForm}
use Rattle.ring.proofs.Linear.{linear_self}
use Rattle.ring.proofs.Product.{mul_left}
use Rattle.ring.proofs.Components.{form_component, linear_same}
use Rattle.ring.proofs.Forms.{form_times}

dot_nil : (a : List ℤ) → dot a [] ≡ pos 0
dot_nil [] = refl
dot_nil (x ∷ a) = refl

pub dot_comm : (a b : List ℤ) → dot a b ≡ dot b a
dot_comm [] [] = refl
dot_comm [] (y ∷ b) = refl
dot_comm (x ∷ a) [] = refl
dot_comm (x ∷ a) (y ∷ b) = ap₂ ◌+ℤ◌ (*ℤ_comm x y) (dot_comm a b)

dot-sums : (b a c : List ℤ) → dot (add a c) b ≡ dot a b +ℤ dot c b
dot-sums b [] c = sym (+ℤ_idl (dot c b))
dot-sums [] (x ∷ a) c = dot_nil (add (x ∷ a) c) ∙ sym (ap (λ (z : ℤ). pos 0 +ℤ z) (dot_nil c))
dot-sums (y ∷ b) (x ∷ a) [] = sym (+ℤ_comm (dot (x ∷ a) (y ∷ b)) (pos 0) ∙ +ℤ_idl (dot (x ∷ a) (y ∷ b)))
dot-sums (y ∷ b) (x ∷ a) (z ∷ c) = ap₂ ◌+ℤ◌ (+ℤ-*ℤ x z y) (dot-sums b a c) ∙ swap ◌+ℤ◌ +ℤ_comm +ℤ_assoc (x *ℤ y) (z *ℤ y) (dot a b) (dot c b)

dot_multiples : (b : List ℤ) (s : ℤ) (a : List ℤ) → dot (scale s a) b ≡ s *ℤ dot a b
dot_multiples b s [] = sym (*ℤ-zero s)
dot_multiples [] s (x ∷ a) = sym (*ℤ-zero s)
dot_multiples (y ∷ b) s (x ∷ a) = ap₂ ◌+ℤ◌ (*ℤ_assoc s x y) (dot_multiples b s a) ∙ sym (*ℤ-+ℤ s (x *ℤ y) (dot a b))

pub form_dot : (b : List ℤ) → LinearForm (λ a. dot a b)
form_dot b = record { nil = refl; sums = dot-sums b; multiples = dot_multiples b }

pub dot-negate : (a b : List ℤ) → dot a (negate b) ≡ neg_ℤ (dot a b)
dot-negate a b = dot_comm a (negate b) ∙ dot_multiples a (negsuc 0) b ∙ minus-one-*ℤ (dot b a) ∙ ap neg_ℤ (dot_comm b a)

-- component 0 of a product with c_m, for m no multiple of 8

constant_at : ℕ → ℕ → Bool
constant_at r k = eq_z (component (mul (only (pos 1) k) (full_turn r)) 0) (pos 2 *ℤ dot (only (pos 1) k) (full_turn r))

constant_test : T (every 32 (λ r. eqb (r % 8) 0 || every 8 (constant_at r)))
unfolding constant_at cosine basis_product mul
constant_test = tt

pub constant_product : (m : ℕ) → 0 < m % 8 → {a : List ℤ} → Eight a → component (mul a (cosine (pos m))) 0 ≡ pos 2 *ℤ dot a (cosine (pos m))
unfolding constant_at cosine
constant_product m n =
    linear_same (λ b. component (mul b c) 0) (λ b. pos 2 *ℤ dot b c) (form_component (λ b. mul b c) (mul_left c) 0) (form_times (pos 2) (form_dot c))
    (λ k h. eq_z→≡ _ _ (every-at 8 (constant_at (m % 32)) test k h))
  where
    c : List ℤ
    c = full_turn (m % 32)

    test : T (every 8 (constant_at (m % 32)))
    test =
        rw (ne_eqb (m % 32 % 8) 0 (λ q. omega arith))
        at (every-at 32 (λ r. eqb (r % 8) 0 || every 8 (constant_at r)) constant_test (m % 32) (omega arith))

-- the product with c_k, for k from 1 to 7, is component k
basis_at : ℕ → ℕ → Bool
basis_at k i = eq_z (dot (only (pos 1) i) (cosine (pos k))) (component (only (pos 1) i) k)

basis_test : T (every 8 (λ k. eqb k 0 || every 8 (basis_at k)))
unfolding basis_at cosine
basis_test = tt

pub dot-cosine : (k : ℕ) → 0 < k → k < 8 → {a : List ℤ} → Eight a → dot a (cosine (pos k)) ≡ component a k
unfolding basis_at
dot-cosine k l h =
    linear_same (λ a. dot a (cosine (pos k))) (λ a. component a k) (form_dot (cosine (pos k))) (form_component (λ a. a) linear_self k)
    (λ i b. eq_z→≡ _ _ (every-at 8 (basis_at k) test i b))
  where
    test : T (every 8 (basis_at k))
    test = rw (ne_eqb k 0 (λ q. omega arith)) at (every-at 8 (λ k. eqb k 0 || every 8 (basis_at k)) basis_test k h)
