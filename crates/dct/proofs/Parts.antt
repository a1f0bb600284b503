-- A row by its parts. The step is linear over the ring, so that the step of a row is the sum, over the components that its elements have, of 1 or
-- c_k, which the component counts, times the step of the whole numbers that stand there.
use Rattle.std.specs.Prelude.{◌≡◌, ◌<◌}
use Rattle.integers.specs.Kit.{sym, ap, ap₂, ◌∙◌, List, [], ℕ, zero, suc, T, ℤ, pos}
use native.Mathlib.Omega.{arith}
use Rattle.integers.specs.Sum.{sum}
use Rattle.integers.specs.Test.{eq_list}
use Rattle.integers.proofs.Sums.{sum_cong, sum-plus, sum_swap}
use Rattle.integers.proofs.Tests.{every-at, eq_list→≡}
use Rattle.ring.specs.Element.{component, add, scale, integer, cosine, mul, Eight}
use Rattle.ring.specs.Maps.{part}
use Rattle.ring.proofs.Linear.{elements, add-scale, scale-scale, linear_scale, linear_sum}
use Rattle.ring.proofs.Product.{mul_left, mul_right, mul_comm, mul_assoc}
use Rattle.ring.proofs.Components.{eight_only, component-add, component-scale, cosine-only}
use Rattle.ring.proofs.Ring.{mul-integer}
use Rattle.dct.specs.Rows.{unit, restricted, spans}
use Rattle.dct.specs.Transform.{step_by}

-- the part of a at component k, times what it counts
part-product : (a : List ℤ) (k : ℕ) → scale (component a k) (unit k) ≡ mul (unit k) (part a k)
part-product a k = sym (mul_comm (unit k) (part a k) ∙ mul-integer (component a k) (eight_only (pos 1) k))

-- c_k, for k from 1 to 7
pub unit-cosine : (k : ℕ) → 0 < k → k < 8 → cosine (pos k) ≡ unit k
unit-cosine zero some h = absurd (omega arith)
unit-cosine (suc k) some h = cosine-only k (omega arith)

-- the step of a row that has only some components
module _ (f : ℕ → ℕ → List ℤ) (k : ℕ → ℕ) (m : ℕ) (x : ℕ → List ℤ) (counts : (n : ℕ) → n < 8 → restricted m k (x n) ≡ x n) (v : ℕ) where
  term : ℕ → ℕ → List ℤ
  term n i = mul (unit (k i)) (mul (part (x n) (k i)) (f v n))

  spread : (n : ℕ) → n < 8 → mul (x n) (f v n) ≡ sum [] add m (term n)
  unfolding restricted term
  spread n h =
      ap (λ a. mul a (f v n)) (sym (counts n h))
      ∙ linear_sum (λ a. mul a (f v n)) (mul_left (f v n)) m (λ i. scale (component (x n) (k i)) (unit (k i)))
      ∙ sum_cong [] add m _ _ (λ i l. ap (λ a. mul a (f v n)) (part-product (x n) (k i)) ∙ mul_assoc (unit (k i)) (part (x n) (k i)) (f v n))

  pub by_parts : sum [] add m (λ i. mul (unit (k i)) (step_by f (λ n. part (x n) (k i)) v)) ≡ step_by f x v
  unfolding step_by term
  by_parts =
      sum_cong [] add m _ _ (λ i l. linear_sum (mul (unit (k i))) (mul_right (unit (k i))) 8 (λ n. mul (part (x n) (k i)) (f v n)))
      ∙ sum_swap [] add elements m 8 (λ i n. term n i) ∙ sum_cong [] add 8 _ _ (λ n h. sym (spread n h))

-- restriction keeps sums and multiples, so that what is kept whole by it is closed under them
module _ (m : ℕ) (k : ℕ → ℕ) where
  restricted-add : (a b : List ℤ) → restricted m k (add a b) ≡ add (restricted m k a) (restricted m k b)
  unfolding restricted
  restricted-add a b =
      sum_cong [] add m _ _ (λ i h. ap (λ s. scale s (unit (k i))) (component-add a b (k i)) ∙ add-scale (component a (k i)) (component b (k i)) (unit (k i)))
      ∙ sum-plus [] add elements m _ _

  restricted-scale : (s : ℤ) (a : List ℤ) → restricted m k (scale s a) ≡ scale s (restricted m k a)
  unfolding restricted
  restricted-scale s a =
      sum_cong [] add m _ _ (λ i h. ap (λ t. scale t (unit (k i))) (component-scale s a (k i)) ∙ sym (scale-scale s (component a (k i)) (unit (k i))))
      ∙ sym (linear_sum (scale s) (linear_scale s) m _)

  pub multiple_kept : (s : ℤ) {a : List ℤ} → restricted m k a ≡ a → restricted m k (scale s a) ≡ scale s a
  multiple_kept s {a} e = restricted-scale s a ∙ ap (scale s) e

  pub sum_kept : (n : ℕ) (f : ℕ → List ℤ) → ((i : ℕ) → i < suc n → restricted m k (f i) ≡ f i) → restricted m k (sum [] add (suc n) f) ≡ sum [] add (suc n) f
  unfolding sum
  sum_kept zero f kept = kept 0 (omega arith)
  sum_kept (suc n) f kept = restricted-add (sum [] add (suc n) f) (f (suc n)) ∙ ap₂ add (sum_kept n f (λ i h. kept i (omega arith))) (kept (suc n) (omega arith))

-- where the factors of frequency u have these components alone, so have the frequencies u of whole numbers
pub restricted-step : {f : ℕ → ℕ → List ℤ} → ((k n : ℕ) → Eight (f k n)) → (k : ℕ → ℕ) (m : ℕ) (x : ℕ → ℤ) (u : ℕ) → T (spans f k (suc m) u)
    → restricted (suc m) k (step_by f (λ n. integer (x n)) u) ≡ step_by f (λ n. integer (x n)) u
unfolding step_by
restricted-step {f} eights k m x u t =
    sum_kept (suc m) k 7 (λ n. mul (integer (x n)) (f u n)) (λ n h.
    rw (mul-integer (x n) (eights u n)) (multiple_kept (suc m) k (x n) (eq_list→≡ _ _ (every-at 8 (λ n. eq_list (restricted (suc m) k (f u n)) (f u n)) t n h))))
