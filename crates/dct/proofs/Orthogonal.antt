-- The factors are orthogonal: in one dimension by a computed test, in d dimensions by induction.
use Rattle.std.specs.Prelude.{◌≡◌, ◌+◌, ◌*◌, ◌/◌, ◌%◌, ◌^◌, ◌<◌, ◌*ℤ◌}
use Rattle.integers.specs.Kit.{sym, ap, ap₂, ◌∙◌, Bool, List, [], ℕ, zero, suc, T, ℤ, pos}
use native.Mathlib.Nat.{pow-suc}
use native.Mathlib.Decide.{ℕ_discrete}
use native.Mathlib.Omega.{arith}
use lib.IntN.{zero-*ℤ, *ℤ-zero}
use borrow.Author.Tests.{eq-eqb, ne_eqb}
use Rattle.integers.specs.Sum.{sum}
use Rattle.integers.specs.Test.{eq_list, every₂}
use Rattle.integers.proofs.Sums.{sum_cong}
use Rattle.integers.proofs.Tests.{every₂-at, eq_list→≡}
use Rattle.ring.specs.Element.{add, integer, cosine, mul}
use Rattle.ring.proofs.Linear.{elements, linear_sum}
use Rattle.ring.proofs.Product.{mul_left, mul_right, mul_swap}
use Rattle.ring.proofs.Components.{eight_only}
use Rattle.ring.proofs.Ring.{mul-one, mul-integer, scale-integer}
use Rattle.dct.specs.Inverse.{gram, delta}
use Rattle.dct.specs.Transform.{angle, factor, factors, factors_by}
use Rattle.dct.proofs.Factors.{angle_product, factor-product, factors_frequency, sum_digits}

pub delta-same : (d q r : ℕ) → q ≡ r → delta d q r ≡ pos (16 ^ d)
unfolding delta
delta-same d q r e = rw (eq-eqb q r e)

pub delta_other : (d q r : ℕ) → (q ≡ r → ⊥) → delta d q r ≡ pos 0
unfolding delta
delta_other d q r n = rw (ne_eqb q r n)

delta_suc : (d q r : ℕ) → delta d (q / 8) (r / 8) *ℤ delta 1 (q % 8) (r % 8) ≡ delta (suc d) q r
delta_suc d q r = go (ℕ_discrete (q / 8) (r / 8)) (ℕ_discrete (q % 8) (r % 8))
  where
    first : ℤ
    first = delta d (q / 8) (r / 8)

    last : ℤ
    last = delta 1 (q % 8) (r % 8)

    go : Dec (q / 8 ≡ r / 8) → Dec (q % 8 ≡ r % 8) → first *ℤ last ≡ delta (suc d) q r
    go (yes p) (yes s) =
        rw (delta-same d (q / 8) (r / 8) p, delta-same 1 (q % 8) (r % 8) s, delta-same (suc d) q r (omega arith), pow-suc 16 d)
    go (yes p) (no s) = rw (delta_other 1 (q % 8) (r % 8) s, delta_other (suc d) q r (λ e. s (ap (λ (n : ℕ). n % 8) e))) (*ℤ-zero first)
    go (no p) s = rw (delta_other d (q / 8) (r / 8) p, delta_other (suc d) q r (λ e. p (ap (λ (n : ℕ). n / 8) e))) (zero-*ℤ last)

-- one dimension

-- the sum over all frequencies k of t(k,n) × t(k,m)
unfoldable pub row_gram : ℕ → ℕ → List ℤ
row_gram n m = sum [] add 8 (λ k. mul (factor k n) (factor k m))

row_gram-at : ℕ → ℕ → Bool
row_gram-at n m = eq_list (sum [] add 8 (λ k. angle_product (angle k n) (angle k m))) (integer (delta 1 n m))

row_gram_test : T (every₂ 8 row_gram-at)
unfolding sum row_gram-at delta angle_product cosine
row_gram_test = tt

pub row_gram_is : (n m : ℕ) → n < 8 → m < 8 → row_gram n m ≡ integer (delta 1 n m)
unfolding row_gram row_gram-at
row_gram_is n m h k = sum_cong [] add 8 _ _ (λ k l. factor-product k n k m) ∙ eq_list→≡ _ _ (every₂-at 8 row_gram-at row_gram_test n m h k)

-- d dimensions

-- one dimension more is one factor more
module _ (d q r : ℕ) where
  both : ℕ → List ℤ
  both p = mul (factors d p (q / 8)) (factors d p (r / 8))

  last_digit : (p : ℕ) → sum [] add 8 (λ k. mul (factors (suc d) (p * 8 + k) q) (factors (suc d) (p * 8 + k) r)) ≡ mul (both p) (row_gram (q % 8) (r % 8))
  unfolding both row_gram
  last_digit p =
      sum_cong [] add 8 _ (λ k. mul (both p) (mul (factor k (q % 8)) (factor k (r % 8))))
      (λ k h. ap₂ mul (factors_frequency factor d p k q h) (factors_frequency factor d p k r h) ∙ mul_swap (factors d p (q / 8)) (factor k (q % 8)) (factors d p (r / 8)) (factor k (r % 8)))
      ∙ sym (linear_sum (mul (both p)) (mul_right (both p)) 8 (λ k. mul (factor k (q % 8)) (factor k (r % 8))))

  gram_suc : gram (suc d) q r ≡ mul (gram d (q / 8) (r / 8)) (row_gram (q % 8) (r % 8))
  unfolding gram both
  gram_suc =
      let g = row_gram (q % 8) (r % 8) in
      sum_digits [] add elements d (λ p. mul (factors (suc d) p q) (factors (suc d) p r))
      ∙ sum_cong [] add (8 ^ d) _ (λ p. mul (both p) g) (λ p h. last_digit p)
      ∙ sym (linear_sum (λ a. mul a g) (mul_left g) (8 ^ d) both)

pub orthogonal : (d q r : ℕ) → q < 8 ^ d → r < 8 ^ d → gram d q r ≡ integer (delta d q r)
unfolding sum gram factors_by
orthogonal zero q r h k = mul-one (eight_only (pos 1) 0) ∙ sym (ap integer (delta-same 0 q r (omega arith)))
orthogonal (suc d) q r h k =
    let last = delta 1 (q % 8) (r % 8) in
    gram_suc d q r
    ∙ ap₂ mul (orthogonal d (q / 8) (r / 8) (first_digits h) (first_digits k)) (row_gram_is (q % 8) (r % 8) (omega arith) (omega arith))
    ∙ mul-integer (delta d (q / 8) (r / 8)) (eight_only last 0) ∙ scale-integer (delta d (q / 8) (r / 8)) last ∙ ap integer (delta_suc d q r)
  where
    first_digits : {n : ℕ} → n < 8 ^ suc d → n / 8 < 8 ^ d
    first_digits {n} l = let l' : n < 8 ^ d * 8 = rw (pow-suc 8 d) at l in omega arith
