-- The step by halves: butterflies, which are the sums x_n + x_(7-n) and the differences x_n - x_(7-n), then the even frequencies from the sums,
-- and the odd ones from the differences.
use Rattle.std.specs.Prelude.{◌≡◌, ◌+◌, ◌*◌, ◌-◌, ◌%◌, ◌<◌}
use Rattle.integers.specs.Kit.{sym, ap, ◌∙◌, Bool, List, [], ℕ, T, ℤ, pos, negsuc}
use native.Mathlib.Omega.{arith}
use Rattle.integers.specs.Sum.{sum}
use Rattle.integers.specs.Test.{eq_list, every₂}
use Rattle.integers.proofs.Sums.{sum_append, sum_cong, sum-plus, sum_reverse}
use Rattle.integers.proofs.Tests.{every₂-at, eq_list→≡}
use Rattle.ring.specs.Element.{add, scale, negate, subtract, cosine, mul}
use Rattle.ring.proofs.Linear.{elements, scale_one}
use Rattle.ring.proofs.Product.{mul_left, mul_right}
use Rattle.dct.specs.Transform.{factor, step, step_by, half_step, mirror_sign}

-- a mirrored row: t(k,7-n) is t(k,n) for even k, and its negative for odd k

mirrored_at : ℕ → ℕ → Bool
mirrored_at k n = eq_list (factor k (7 - n)) (scale (mirror_sign k) (factor k n))

mirrored_test : T (every₂ 8 mirrored_at)
unfolding mirrored_at factor cosine
mirrored_test = tt

pub mirrored : (k n : ℕ) → k < 8 → n < 8 → factor k (7 - n) ≡ scale (mirror_sign k) (factor k n)
unfolding mirrored_at
mirrored k n h l = eq_list→≡ _ _ (every₂-at 8 mirrored_at mirrored_test k n h l)

pub even_mirrored : (i n : ℕ) → i < 4 → n < 4 → factor (2 * i + 0) (7 - n) ≡ factor (2 * i + 0) n
even_mirrored i n h l =
    let even : (2 * i + 0) % 2 ≡ 0 = omega arith in
    rw even at (mirrored (2 * i + 0) n (omega arith) (omega arith)) ∙ scale_one (factor (2 * i + 0) n)

pub odd_mirrored : (i n : ℕ) → i < 4 → n < 4 → factor (2 * i + 1) (7 - n) ≡ negate (factor (2 * i + 1) n)
odd_mirrored i n h l =
    let odd : (2 * i + 1) % 2 ≡ 1 = omega arith in
    rw odd at (mirrored (2 * i + 1) n (omega arith) (omega arith))

-- a row from its half, for a frequency k at which the mirrored factors are s times the others

module _ (x : ℕ → List ℤ) (k : ℕ) (s : ℤ) (mirrored : (n : ℕ) → n < 4 → factor k (7 - n) ≡ scale s (factor k n)) where
  term : ℕ → List ℤ
  term n = mul (x n) (factor k n)

  both : (n : ℕ) → n < 4 → mul (add (x n) (scale s (x (7 - n)))) (factor k n) ≡ add (term n) (term (7 - n))
  unfolding term
  both n h =
      (mul_left (factor k n)).sums (x n) (scale s (x (7 - n)))
      ∙ ap (add (mul (x n) (factor k n))) ((mul_left (factor k n)).multiples s (x (7 - n)) ∙ sym ((mul_right (x (7 - n))).multiples s (factor k n))
      ∙ ap (mul (x (7 - n))) (sym (mirrored n h)))

  last_four : sum [] add 4 (λ n. term (7 - n)) ≡ sum [] add 4 (λ n. term (4 + n))
  last_four = sum_cong [] add 4 _ _ (λ n h. ap term (omega arith)) ∙ sym (sum_reverse [] add elements 4 (λ n. term (4 + n)))

  butterfly : half_step (λ n. add (x n) (scale s (x (7 - n)))) k ≡ step x k
  unfolding half_step step_by term
  butterfly =
      sum_cong [] add 4 _ _ both ∙ sum-plus [] add elements 4 term (λ n. term (7 - n)) ∙ ap (add (sum [] add 4 term)) last_four
      ∙ sym (sum_append [] add elements 4 4 term)

pub even_step : (x : ℕ → List ℤ) (i : ℕ) → i < 4 → half_step (λ n. add (x n) (x (7 - n))) (2 * i + 0) ≡ step x (2 * i + 0)
unfolding half_step
even_step x i h =
    sum_cong [] add 4 _ _ (λ n l. ap (λ a. mul (add (x n) a) (factor (2 * i + 0) n)) (sym (scale_one (x (7 - n)))))
    ∙ butterfly x (2 * i + 0) (pos 1) (λ n l. even_mirrored i n h l ∙ sym (scale_one (factor (2 * i + 0) n)))

pub odd_step : (x : ℕ → List ℤ) (i : ℕ) → i < 4 → half_step (λ n. subtract (x n) (x (7 - n))) (2 * i + 1) ≡ step x (2 * i + 1)
odd_step x i h = butterfly x (2 * i + 1) (negsuc 0) (λ n l. odd_mirrored i n h l)
