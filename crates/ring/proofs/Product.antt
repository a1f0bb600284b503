-- The product of elements is linear in each factor, commutative and associative. All laws hold of lists of any length.
use Rattle.std.specs.Prelude.{◌≡◌, ◌%◌, ◌≤◌, ◌<◌, ◌-ℤ◌}
use Rattle.integers.specs.Kit.{refl, sym, ap, ap₂, ◌∙◌, Bool, List, [], ℕ, zero, suc, T, ltb, ℤ, pos, neg_ℤ}
use mathlib.Core.Bool.{and_comm}
use native.Mathlib.Decide.{dec_lt}
use native.Mathlib.Omega.{arith}
use lib.IntN.{+ℤ_comm}
use borrow.Author.Tests.{le-ltb}
use Rattle.integers.specs.Test.{eq_list, every₃}
use Rattle.integers.proofs.Integer.{neg_ℤ_sub}
use Rattle.integers.proofs.Magnitudes.{nat_abs_neg}
use Rattle.integers.proofs.Sums.{swap}
use Rattle.integers.proofs.Tests.{every₃-at, eq_list→≡}
use Rattle.ring.specs.Element.{add, scale, full_turn, cosine, by_rule, basis_product, combine, mul}
use Rattle.ring.specs.Maps.{LinearMap}
use Rattle.ring.proofs.Linear.{linear_combine, linear_combination, combine_cong, combine_nil, combine_swap}

-- commutative

-- c_(-m) = c_m
pub cosine_neg : (m : ℤ) → cosine (neg_ℤ m) ≡ cosine m
unfolding cosine
cosine_neg m = ap (λ (n : ℕ). full_turn (n % 32)) (nat_abs_neg m)

-- c_(j-i) = c_(i-j)
pub cosine-difference : (i j : ℤ) → cosine (j -ℤ i) ≡ cosine (i -ℤ j)
cosine-difference i j = ap cosine (sym (neg_ℤ_sub i j)) ∙ cosine_neg (i -ℤ j)

rule_comm : (i j : ℕ) → by_rule i j ≡ by_rule j i
rule_comm zero zero = refl
rule_comm zero (suc j) = refl
rule_comm (suc i) zero = refl
rule_comm (suc i) (suc j) = simp (+ℤ_comm (pos (suc i)) (pos (suc j)), cosine-difference (pos (suc j)) (pos (suc i)))

product_comm : (i j : ℕ) → basis_product i j ≡ basis_product j i
unfolding basis_product
product_comm i j = rw (and_comm (ltb i 8) (ltb j 8), rule_comm i j)

-- a basis element as the second factor, and as the first
combine_flip : (k : ℕ) (a : List ℤ) → combine (λ m. basis_product m k) a ≡ combine (basis_product k) a
combine_flip k a = combine_cong (λ m. product_comm m k) a

pub mul_comm : (a b : List ℤ) → mul a b ≡ mul b a
unfolding mul
mul_comm a b = combine_swap basis_product a b ∙ combine_cong (λ j. combine_flip j a) b

-- linear in each factor

pub mul_left : (b : List ℤ) → LinearMap (λ a. mul a b)
unfolding mul
mul_left b = linear_combination (λ i. combine (basis_product i) b)

pub mul_right : (a : List ℤ) → LinearMap (mul a)
mul_right a = record {
  nil = mul_comm a [] ∙ (mul_left a).nil;
  sums = λ b c. mul_comm a (add b c) ∙ (mul_left a).sums b c ∙ ap₂ add (mul_comm b a) (mul_comm c a);
  multiples = λ s b. mul_comm a (scale s b) ∙ (mul_left a).multiples s b ∙ ap (scale s) (mul_comm b a);
}

-- associative: by a test over the basis elements, and linearity

triple_at : ℕ → ℕ → ℕ → Bool
triple_at i j k = eq_list (combine (λ m. basis_product m k) (basis_product i j)) (combine (basis_product i) (basis_product j k))

triple_test : T (every₃ 8 triple_at)
unfolding triple_at cosine basis_product
triple_test = tt

product_past : (i j : ℕ) → 8 ≤ i → basis_product i j ≡ []
unfolding basis_product
product_past i j h = rw (le-ltb i 8 h)

combine_past : (k : ℕ) → 8 ≤ k → (a : List ℤ) → combine (basis_product k) a ≡ []
combine_past k h a = combine_cong (λ m. product_past k m h) a ∙ combine_nil a

triple : (i j k : ℕ) → combine (λ m. basis_product m k) (basis_product i j) ≡ combine (basis_product i) (basis_product j k)
unfolding triple_at
triple i j k = go (dec_lt i 8) (dec_lt j 8) (dec_lt k 8)
  where
    go : Dec (i < 8) → Dec (j < 8) → Dec (k < 8) → combine (λ m. basis_product m k) (basis_product i j) ≡ combine (basis_product i) (basis_product j k)
    go (no p) q r = rw (product_past i j (omega arith)) (sym (combine_past i (omega arith) (basis_product j k)))
    go (yes p) (no q) r = rw (product_past j k (omega arith), product_comm i j, product_past j i (omega arith))
    go (yes p) (yes q) (no r) =
        combine_flip k (basis_product i j) ∙ combine_past k (omega arith) (basis_product i j)
        ∙ sym (ap (combine (basis_product i)) (product_comm j k ∙ product_past k j (omega arith)))
    go (yes p) (yes q) (yes r) = eq_list→≡ _ _ (every₃-at 8 triple_at triple_test i j k p q r)

-- b_i × (x × c), for the basis element b_i
module _ (i : ℕ) (c : List ℤ) where
  basis_assoc_basis : (j : ℕ) → mul (basis_product i j) c ≡ combine (basis_product i) (combine (basis_product j) c)
  unfolding mul
  basis_assoc_basis j =
      combine_swap basis_product (basis_product i j) c ∙ combine_cong (triple i j) c
      ∙ sym (linear_combine (combine (basis_product i)) (linear_combination (basis_product i)) (basis_product j) c)

  basis_assoc : (b : List ℤ) → mul (combine (basis_product i) b) c ≡ combine (basis_product i) (mul b c)
  unfolding mul
  basis_assoc b =
      linear_combine (λ x. mul x c) (mul_left c) (basis_product i) b ∙ combine_cong basis_assoc_basis b
      ∙ sym (linear_combine (combine (basis_product i)) (linear_combination (basis_product i)) (λ j. combine (basis_product j) c) b)

pub mul_assoc : (a b c : List ℤ) → mul (mul a b) c ≡ mul a (mul b c)
unfolding mul
mul_assoc a b c = linear_combine (λ x. mul x c) (mul_left c) (λ i. combine (basis_product i) b) a ∙ combine_cong (λ i. basis_assoc i c b) a

-- (a × b) × (c × d) = (a × c) × (b × d)
pub mul_swap : (a b c d : List ℤ) → mul (mul a b) (mul c d) ≡ mul (mul a c) (mul b d)
mul_swap = swap mul mul_comm mul_assoc
