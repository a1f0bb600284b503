-- The rules of the cosines, each for all whole numbers (01, "Elements"). c_(-m) = c_m is `Product.cosine_neg`.
use Rattle.std.specs.Prelude.{◌≡◌, ◌+◌, ◌-◌, ◌%◌, ◌≤◌, ◌+ℤ◌, ◌-ℤ◌}
use Rattle.integers.specs.Kit.{refl, sym, ap, ap₂, ◌∙◌, Bool, ℕ, suc, T, ℤ, pos, negsuc, neg_ℤ}
use native.Mathlib.Nat.{add-mod}
use native.Mathlib.Decide.{dec_le}
use native.Mathlib.Omega.{arith}
use lib.IntN.{+ℤ_comm, +ℤ_assoc, +ℤ-neg_ℤ_cancel, +ℤ_invr, neg_ℤ-+ℤ, neg_ℤ-neg_ℤ}
use Rattle.integers.specs.Test.{eq_list, every₂}
use Rattle.integers.proofs.Integer.{sub_sub}
use Rattle.integers.proofs.Tests.{every₂-at, eq_list→≡}
use Rattle.ring.specs.Element.{add, negate, subtract, integer, full_turn, cosine, basis_product, mul}
use Rattle.ring.proofs.Linear.{add_comm, scale-scale, scale_one}
use Rattle.ring.proofs.Product.{cosine_neg, cosine-difference, mul_comm}
use Rattle.ring.proofs.Components.{eight_cosine}
use Rattle.ring.proofs.Ring.{negative_of, mul-integer, scale_zero}

-- c_i × c_j = c_(i+j) + c_(i-j)

record Rule (i j : ℤ) : Type 0 where
  holds : mul (cosine i) (cosine j) ≡ add (cosine (i +ℤ j)) (cosine (i -ℤ j))

-- the rule of products by e = i - j and s = j, both modulo 32: c_(e+s) × c_s = c_(e+2s) + c_e
rule_at : ℕ → ℕ → Bool
rule_at e s = eq_list (mul (full_turn ((e + s) % 32)) (full_turn s)) (add (full_turn (((e + s) % 32 + s) % 32)) (full_turn e))

rule_test : T (every₂ 32 rule_at)
unfolding rule_at cosine basis_product mul
rule_test = tt

rule_natural : (d b : ℕ) → mul (cosine (pos (d + b))) (cosine (pos b)) ≡ add (cosine (pos (d + b + b))) (cosine (pos d))
unfolding rule_at cosine
rule_natural d b =
    rw (add-mod (d + b) b 32, add-mod d b 32) (eq_list→≡ _ _ (every₂-at 32 rule_at rule_test (d % 32) (b % 32) (omega arith) (omega arith)))

rule_ordered : (a b : ℕ) → b ≤ a → Rule (pos a) (pos b)
rule_ordered a b h = record { holds = rw e (rule_natural (a - b) b ∙ ap (λ (z : ℤ). add (cosine (pos (a - b + b + b))) (cosine z)) (sym (+ℤ-neg_ℤ_cancel (pos (a - b)) (pos b)))) }
  where
    e : a ≡ a - b + b
    e = omega arith

-- what holds of i and j holds of j and i, and of -i and j
rule-swapped : {i j : ℤ} → Rule i j → Rule j i
rule-swapped {i} {j} r =
    record { holds = mul_comm (cosine j) (cosine i) ∙ r.holds ∙ ap₂ add (ap cosine (+ℤ_comm i j)) (cosine-difference j i) }

rule_negated : (i : ℤ) {j : ℤ} → Rule i j → Rule (neg_ℤ i) j
rule_negated i {j} r = record {
  holds =
      ap (λ a. mul a (cosine j)) (cosine_neg i) ∙ r.holds ∙ add_comm (cosine (i +ℤ j)) (cosine (i -ℤ j))
      ∙ ap₂ add (cosine-difference j i ∙ ap cosine (+ℤ_comm j (neg_ℤ i))) (sym (cosine_neg (i +ℤ j)) ∙ ap cosine (neg_ℤ-+ℤ i j));
}

rule_positive : (a b : ℕ) → Rule (pos a) (pos b)
rule_positive a b = go (dec_le b a)
  where
    go : Dec (b ≤ a) → Rule (pos a) (pos b)
    go (yes h) = rule_ordered a b h
    go (no n) = rule-swapped (rule_ordered b a (omega arith))

rule_second_positive : (i : ℤ) (b : ℕ) → Rule i (pos b)
rule_second_positive (pos a) b = rule_positive a b
rule_second_positive (negsuc a) b = rule_negated (pos (suc a)) (rule_positive (suc a) b)

rule : (i j : ℤ) → Rule i j
rule i (pos b) = rule_second_positive i b
rule i (negsuc b) = rule-swapped (rule_negated (pos (suc b)) (rule-swapped (rule_second_positive i (suc b))))

pub cosine-product : (i j : ℤ) → mul (cosine i) (cosine j) ≡ add (cosine (i +ℤ j)) (cosine (i -ℤ j))
cosine-product i j = (rule i j).holds

-- the other rules

pub cosine_0 : cosine (pos 0) ≡ integer (pos 2)
unfolding cosine
cosine_0 = refl

pub cosine_8 : cosine (pos 8) ≡ integer (pos 0)
unfolding cosine
cosine_8 = refl

-- from c_8 × c_(8-m) = c_(16-m) + c_m
pub cosine_16 : (m : ℤ) → cosine (pos 16 -ℤ m) ≡ negate (cosine m)
cosine_16 m = negative_of (eight_cosine (pos 16 -ℤ m)) (eight_cosine m) (sym sum ∙ none)
  where
    k : ℤ
    k = pos 8 -ℤ m

    sum : mul (cosine (pos 8)) (cosine k) ≡ add (cosine (pos 16 -ℤ m)) (cosine m)
    sum = cosine-product (pos 8) k ∙ ap₂ add (ap cosine (sym (+ℤ_assoc (pos 8) (pos 8) (neg_ℤ m)))) (ap cosine (sub_sub (pos 8) m))

    none : mul (cosine (pos 8)) (cosine k) ≡ integer (pos 0)
    none = ap (λ a. mul a (cosine k)) cosine_8 ∙ mul-integer (pos 0) (eight_cosine k) ∙ scale_zero (eight_cosine k)

-- half a turn, twice
pub cosine_32 : (m : ℤ) → cosine (pos 32 +ℤ m) ≡ cosine m
cosine_32 m =
    ap cosine (+ℤ_assoc (pos 16) (pos 16) m) ∙ half_a_turn (pos 16 +ℤ m) ∙ ap negate (half_a_turn m)
    ∙ scale-scale (negsuc 0) (negsuc 0) (cosine m) ∙ scale_one (cosine m)
  where
    half_a_turn : (k : ℤ) → cosine (pos 16 +ℤ k) ≡ negate (cosine k)
    half_a_turn k =
        ap (λ (z : ℤ). cosine (pos 16 +ℤ z)) (sym (neg_ℤ-neg_ℤ k)) ∙ cosine_16 (neg_ℤ k) ∙ ap negate (cosine_neg k)

-- the squares by which 01 places a fraction against a cosine

-- c_m² = 2 + c_(2m), which serves c_1, c_2 and c_3
pub cosine-square : (m : ℤ) → mul (cosine m) (cosine m) ≡ add (integer (pos 2)) (cosine (m +ℤ m))
cosine-square m =
    cosine-product m m ∙ add_comm (cosine (m +ℤ m)) (cosine (m -ℤ m)) ∙ ap (λ (z : ℤ). add (cosine z) (cosine (m +ℤ m))) (+ℤ_invr m)
    ∙ ap (λ a. add a (cosine (m +ℤ m))) cosine_0

-- c_m² = 2 - c_(16-2m), which serves c_5, c_6 and c_7
pub cosine-square-minus : (m : ℤ) → mul (cosine m) (cosine m) ≡ subtract (integer (pos 2)) (cosine (pos 16 -ℤ (m +ℤ m)))
cosine-square-minus m =
    cosine-square m ∙ ap (add (integer (pos 2))) (ap cosine (sym (sub_sub (pos 16) (m +ℤ m))) ∙ cosine_16 (pos 16 -ℤ (m +ℤ m)))

-- c_4² = 2, since c_8 = 0
pub cosine_4_square : mul (cosine (pos 4)) (cosine (pos 4)) ≡ integer (pos 2)
cosine_4_square = cosine-square (pos 4) ∙ ap (add (integer (pos 2))) cosine_8
