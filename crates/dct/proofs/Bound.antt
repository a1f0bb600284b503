-- The magnitudes of an element's components sum to at most S · 8 · 16^(d-1) in d dimensions, where no sample's magnitude is above S.
use Rattle.std.specs.Prelude.{◌≡◌, ◌+◌, ◌*◌, ◌/◌, ◌%◌, ◌^◌, ◌≤◌, ◌<◌}
use Rattle.integers.specs.Kit.{sym, ap, Bool, List, ℕ, zero, suc, T, leb, ℤ, pos}
use native.Mathlib.Nat.{le_trans, le_of_eq, mul-le-mul_left, mul-le-mul_right, mod-lt, mod-eq_of_lt, pow-suc, zero-lt-suc}
use native.Mathlib.Omega.{arith}
use lib.Dec.{leb→le}
use Rattle.integers.specs.Sum.{sum}
use Rattle.integers.specs.Test.{every, every₂}
use Rattle.integers.proofs.Sums.{naturals, sum_cong, sum_le, sum-times}
use Rattle.integers.proofs.Tests.{every-at, every₂-at}
use Rattle.ring.specs.Element.{scale, only, cosine, basis_product, mul, magnitudes, Eight}
use Rattle.ring.proofs.Product.{mul_left}
use Rattle.ring.proofs.Magnitude.{magnitudes-scale, magnitudes-sum, magnitudes_linear}
use Rattle.ring.proofs.Ring.{mul-one}
use Rattle.dct.specs.Transform.{factor, factors, factors_by, element, element_by, Bounded}
use Rattle.dct.proofs.Factors.{eight_factor, eight_factors, factors-place, sum_digits}

-- one dimension

-- the magnitudes of the eight factors of a frequency sum to at most 8
factor-at : ℕ → Bool
factor-at k = leb (sum 0 ◌+◌ 8 (λ n. magnitudes (factor k n))) 8

factor_test : T (every 8 factor-at)
unfolding sum factor-at factor cosine
factor_test = tt

-- those of their products with a basis element to at most 16, and so with any element to at most 16 times its own
times-factor-at : ℕ → ℕ → Bool
times-factor-at k j = leb (sum 0 ◌+◌ 8 (λ n. magnitudes (mul (only (pos 1) j) (factor k n)))) 16

times-factor_test : T (every₂ 8 times-factor-at)
unfolding sum times-factor-at factor cosine basis_product mul
times-factor_test = tt

times-factor : (k : ℕ) → k < 8 → {a : List ℤ} → Eight a → sum 0 ◌+◌ 8 (λ n. magnitudes (mul a (factor k n))) ≤ 16 * magnitudes a
unfolding times-factor-at
times-factor k h e =
    magnitudes_linear 8 16 (λ n b. mul b (factor k n)) (λ n. mul_left (factor k n))
    (λ j l. leb→le _ 16 (every₂-at 8 times-factor-at times-factor_test k j h l)) e

-- d dimensions

-- those of all the factors that make one element, to at most 8 · 16^(d-1)
weight : ℕ → ℕ → ℕ
weight d p = sum 0 ◌+◌ (8 ^ d) (λ q. magnitudes (factors d p q))

weight-one : (p : ℕ) → weight 1 p ≤ 8
unfolding weight factor-at factors_by
weight-one p =
    rw (sum_cong 0 ◌+◌ 8 (λ q. magnitudes (factors 1 p q)) (λ n. magnitudes (factor (p % 8) n)) (λ n h. ap magnitudes (only-factor n h)))
    (leb→le _ 8 (every-at 8 factor-at factor_test (p % 8) (mod-lt p (zero-lt-suc 7))))
  where
    only-factor : (n : ℕ) → n < 8 → factors 1 p n ≡ factor (p % 8) n
    only-factor n h = rw (mod-eq_of_lt h) (mul-one (eight_factor (p % 8) n))

weight_suc : (d p : ℕ) → weight (suc d) p ≤ 16 * weight d (p / 8)
unfolding weight
weight_suc d p =
    le_trans (le_of_eq (sum_digits 0 ◌+◌ naturals d (λ q. magnitudes (factors (suc d) p q))))
    (le_trans (sum_le (8 ^ d) _ (λ q. 16 * magnitudes (factors d (p / 8) q)) (λ q h. last_digit q))
    (le_of_eq (sym (sum-times (8 ^ d) 16 (λ q. magnitudes (factors d (p / 8) q))))))
  where
    last_digit : (q : ℕ) → sum 0 ◌+◌ 8 (λ n. magnitudes (factors (suc d) p (q * 8 + n))) ≤ 16 * magnitudes (factors d (p / 8) q)
    last_digit q =
        rw (sum_cong 0 ◌+◌ 8 _ (λ n. magnitudes (mul (factors d (p / 8) q) (factor (p % 8) n))) (λ n h. ap magnitudes (factors-place factor d p q n h)))
        (times-factor (p % 8) (mod-lt p (zero-lt-suc 7)) (eight_factors eight_factor d (p / 8) q))

weight_le : (d p : ℕ) → weight (suc d) p ≤ 8 * 16 ^ d
weight_le zero p = weight-one p
weight_le (suc d) p = rw (pow-suc 16 d) (omega (arith, weight_suc (suc d) p, weight_le d (p / 8)))

pub bound : (d S : ℕ) (x : ℕ → ℤ) → Bounded (suc d) S x → (p : ℕ) → magnitudes (element (suc d) x p) ≤ S * (8 * 16 ^ d)
unfolding element_by weight
bound d S x h p =
    le_trans (magnitudes-sum n (λ q. scale (x q) (factors (suc d) p q)))
    (le_trans (sum_le n _ (λ q. S * of q) (λ q k. rw (magnitudes-scale (x q) (factors (suc d) p q)) (mul-le-mul_right (of q) (h q k))))
    (le_trans (le_of_eq (sym (sum-times n S of))) (mul-le-mul_left S (weight_le d p))))
  where
    n : ℕ
    n = 8 ^ suc d

    of : ℕ → ℕ
    of q = magnitudes (factors (suc d) p q)
