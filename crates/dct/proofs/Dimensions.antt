-- The element in other words: one dimension at a time, 01's double sum, columns and then rows, and T.81's formula.
use Rattle.std.specs.Prelude.{◌≡◌, ◌+◌, ◌*◌, ◌/◌, ◌%◌, ◌^◌, ◌<◌}
use Rattle.integers.specs.Kit.{sym, ap, ap₂, ◌∙◌, List, [], ℕ, zero, suc, ℤ, pos}
use native.Mathlib.Nat.{mod-eq_of_lt, mul-zero, mul_comm as times_comm}
use native.Mathlib.Omega.{arith}
use Rattle.integers.specs.Sum.{sum}
use Rattle.integers.proofs.Sums.{sum_cong, sum_swap}
use Rattle.ring.specs.Element.{add, scale, integer, cosine, mul, Eight}
use Rattle.ring.specs.Maps.{LinearMap}
use Rattle.ring.proofs.Linear.{elements, linear_sum, linear_scale, scale-scale}
use Rattle.ring.proofs.Product.{mul_left, mul_right, mul_comm, mul_swap}
use Rattle.ring.proofs.Components.{eight_cosine}
use Rattle.ring.proofs.Ring.{mul-one, mul-integer}
use Rattle.ring.proofs.Cosines.{cosine_0}
use Rattle.dct.specs.Transform.{factor, factors_by, element_by, double_sum, double_sum_by, step_by}
use Rattle.dct.specs.T81.{twice_C, sixty_four_S}
use Rattle.dct.proofs.Factors.{factors-place, sum_digits}

-- any family
module _ (f : ℕ → ℕ → List ℤ) where
  -- the element of d + 1 dimensions: the d-dimensional elements of the eight parts along the last dimension, and then a step over them
  pub last_dimension : (d : ℕ) (x : ℕ → ℤ) (p : ℕ) → element_by f (suc d) x p ≡ step_by f (λ n. element_by f d (λ q. x (q * 8 + n)) (p / 8)) (p % 8)
  unfolding element_by step_by
  last_dimension d x p =
      sum_digits [] add elements d (λ q. scale (x q) (factors_by f (suc d) p q))
      ∙ sum_cong [] add (8 ^ d) _ _ (λ q h. sum_cong [] add 8 _ (λ n. term n q) (λ n l. item q n l))
      ∙ sum_swap [] add elements (8 ^ d) 8 (λ q n. term n q)
      ∙ sum_cong [] add 8 _ _ (λ n l. sym (linear_sum (λ a. mul a (t n)) (mul_left (t n)) (8 ^ d) (λ q. scale (x (q * 8 + n)) (factors_by f d (p / 8) q))))
    where
      t : ℕ → List ℤ
      t n = f (p % 8) n

      term : ℕ → ℕ → List ℤ
      term n q = mul (scale (x (q * 8 + n)) (factors_by f d (p / 8) q)) (t n)

      item : (q n : ℕ) → n < 8 → scale (x (q * 8 + n)) (factors_by f (suc d) p (q * 8 + n)) ≡ term n q
      item q n l = ap (scale (x (q * 8 + n))) (factors-place f d p q n l) ∙ sym ((mul_left (t n)).multiples (x (q * 8 + n)) (factors_by f d (p / 8) q))

  pub double_sum_cong : (x y : ℕ → ℕ → ℤ) (u v : ℕ) → ((i j : ℕ) → i < 8 → j < 8 → x i j ≡ y i j) → double_sum_by f x u v ≡ double_sum_by f y u v
  unfolding double_sum_by
  double_sum_cong x y u v e =
      sum_cong [] add 8 _ _ (λ i h. sum_cong [] add 8 _ _ (λ j l. rw (e i j h l)))

-- a family whose factors have all of their components
module _ {f : ℕ → ℕ → List ℤ} (eights : (k n : ℕ) → Eight (f k n)) where
  -- one dimension: a step over whole numbers
  pub first_dimension : (x : ℕ → ℤ) (k : ℕ) → k < 8 → element_by f 1 x k ≡ step_by f (λ n. integer (x n)) k
  unfolding element_by step_by factors_by
  first_dimension x k h = sum_cong [] add 8 _ _ (λ n l. ap (scale (x n)) (term n l) ∙ sym (mul-integer (x n) (eights k n)))
    where
      term : (n : ℕ) → n < 8 → mul (integer (pos 1)) (f (k % 8) (n % 8)) ≡ f k n
      term n l = rw (mod-eq_of_lt h, mod-eq_of_lt l) (mul-one (eights k n))

  -- two dimensions

  two-factors : (u v i j : ℕ) → u < 8 → v < 8 → i < 8 → j < 8 → factors_by f 2 (8 * u + v) (i * 8 + j) ≡ mul (f u i) (f v j)
  unfolding factors_by
  two-factors u v i j h k l m =
      let p : (8 * u + v) / 8 ≡ u = omega arith in
      let q : (8 * u + v) % 8 ≡ v = omega arith in
      factors-place f 1 (8 * u + v) i j m ∙ rw (p, q, mod-eq_of_lt h, mod-eq_of_lt l, mul-one (eights u i))

  -- 01's double sum is the element of two dimensions, with sample (i,j) at index 8i+j and the element of (u,v) at number 8u+v
  pub element-double_sum : (x : ℕ → ℤ) (u v : ℕ) → u < 8 → v < 8 → element_by f 2 x (8 * u + v) ≡ double_sum_by f (λ i j. x (8 * i + j)) u v
  unfolding element_by double_sum_by
  element-double_sum x u v h k =
      sum_digits [] add elements 1 (λ q. scale (x q) (factors_by f 2 (8 * u + v) q))
      ∙ sum_cong [] add 8 _ _ (λ i l. sum_cong [] add 8 _ _ (λ j m. ap₂ scale (ap x (ap (λ (a : ℕ). a + j) (times_comm i 8))) (two-factors u v i j h k l m)))

  -- the same by the element's number
  pub element_by-number : (x : ℕ → ℤ) (p : ℕ) → p < 64 → element_by f 2 x p ≡ double_sum_by f (λ i j. x (8 * i + j)) (p / 8) (p % 8)
  element_by-number x p h =
      let number : 8 * (p / 8) + p % 8 ≡ p = omega arith in
      rw number at (element-double_sum x (p / 8) (p % 8) (omega arith) (omega arith))

  -- columns, then rows: a step down each column j, and then a step across
  pub columns_then_rows : (x : ℕ → ℕ → ℤ) (u v : ℕ) → double_sum_by f x u v ≡ step_by f (λ j. step_by f (λ i. integer (x i j)) u) v
  unfolding double_sum_by step_by
  columns_then_rows x u v = sum_swap [] add elements 8 8 term ∙ sum_cong [] add 8 _ _ (λ j h. sym (column j))
    where
      term : ℕ → ℕ → List ℤ
      term i j = scale (x i j) (mul (f u i) (f v j))

      item : (i j : ℕ) → mul (mul (integer (x i j)) (f u i)) (f v j) ≡ term i j
      item i j = ap (λ a. mul a (f v j)) (mul-integer (x i j) (eights u i)) ∙ (mul_left (f v j)).multiples (x i j) (f u i)

      column : (j : ℕ) → mul (sum [] add 8 (λ i. mul (integer (x i j)) (f u i))) (f v j) ≡ sum [] add 8 (λ i. term i j)
      column j =
          linear_sum (λ a. mul a (f v j)) (mul_left (f v j)) 8 (λ i. mul (integer (x i j)) (f u i))
          ∙ sum_cong [] add 8 _ _ (λ i h. item i j)

-- T.81

-- 2·C(k) × 2·cos((2n+1)·k·π/16) is twice the factor
twice-factor : (k n : ℕ) → mul (twice_C k) (cosine (pos ((2 * n + 1) * k))) ≡ scale (pos 2) (factor k n)
unfolding twice_C factor
twice-factor zero n =
    ap (λ (a : ℕ). mul (cosine (pos 4)) (cosine (pos a))) (mul-zero (2 * n + 1)) ∙ ap (mul (cosine (pos 4))) cosine_0
    ∙ mul_comm (cosine (pos 4)) (integer (pos 2)) ∙ mul-integer (pos 2) (eight_cosine (pos 4))
twice-factor (suc k) n = mul-integer (pos 2) (eight_cosine (pos ((2 * n + 1) * suc k)))

pub linear_double_sum : (L : List ℤ → List ℤ) → LinearMap L → (f : ℕ → ℕ → List ℤ)
    → L (sum [] add 8 (λ i. sum [] add 8 (f i))) ≡ sum [] add 8 (λ i. sum [] add 8 (λ j. L (f i j)))
linear_double_sum L l f = linear_sum L l 8 (λ i. sum [] add 8 (f i)) ∙ sum_cong [] add 8 _ _ (λ i h. linear_sum L l 8 (f i))

-- four times the element is 64 times T.81's S(u,v): the element is 16 times the DCT value
pub sixteen_times_dct : (x : ℕ → ℕ → ℤ) (u v : ℕ) → scale (pos 4) (double_sum x u v) ≡ sixty_four_S x u v
unfolding double_sum_by sixty_four_S
sixteen_times_dct x u v =
    linear_double_sum (scale (pos 4)) (linear_scale (pos 4)) (λ i j. scale (x i j) (factor_pair i j))
    ∙ sum_cong [] add 8 _ _ (λ i h. sum_cong [] add 8 _ _ (λ j k. item i j))
    ∙ sym (linear_double_sum (mul C) (mul_right C) (λ i j. scale (x i j) (cosine_pair i j)))
  where
    C : List ℤ
    C = mul (twice_C u) (twice_C v)

    cosine-at : ℕ → ℕ → List ℤ
    cosine-at k n = cosine (pos ((2 * n + 1) * k))

    cosine_pair : ℕ → ℕ → List ℤ
    cosine_pair i j = mul (cosine-at u i) (cosine-at v j)

    factor_pair : ℕ → ℕ → List ℤ
    factor_pair i j = mul (factor u i) (factor v j)

    fourfold : (i j : ℕ) → mul C (cosine_pair i j) ≡ scale (pos 4) (factor_pair i j)
    fourfold i j =
        mul_swap (twice_C u) (twice_C v) (cosine-at u i) (cosine-at v j) ∙ ap₂ mul (twice-factor u i) (twice-factor v j)
        ∙ (mul_left (scale (pos 2) (factor v j))).multiples (pos 2) (factor u i) ∙ ap (scale (pos 2)) ((mul_right (factor u i)).multiples (pos 2) (factor v j))
        ∙ scale-scale (pos 2) (pos 2) (factor_pair i j)

    item : (i j : ℕ) → scale (pos 4) (scale (x i j) (factor_pair i j)) ≡ mul C (scale (x i j) (cosine_pair i j))
    item i j =
        (linear_scale (pos 4)).multiples (x i j) (factor_pair i j) ∙ ap (scale (x i j)) (sym (fourfold i j))
        ∙ sym ((mul_right C).multiples (x i j) (cosine_pair i j))
