-- A block whose samples are all the same: at most one of its elements is not 0.
use Rattle.std.specs.Prelude.{◌≡◌, ◌+◌, ◌*◌, ◌/◌, ◌%◌, ◌<◌, ◌*ℤ◌}
use Rattle.integers.specs.Kit.{sym, ap, ◌∙◌, Bool, cond, List, [], ℕ, T, eqb, ℤ, pos}
use native.Mathlib.Decide.{ℕ_discrete}
use native.Mathlib.Omega.{arith}
use lib.IntN.{*ℤ-zero}
use borrow.Author.Tests.{eq-eqb, ne_eqb}
use Rattle.integers.specs.Sum.{sum}
use Rattle.integers.specs.Table.{table}
use Rattle.integers.specs.Test.{eq_list, every₂}
use Rattle.integers.proofs.Sums.{sum_cong}
use Rattle.integers.proofs.Tables.{get_d_table, length-table, is_table}
use Rattle.integers.proofs.Tests.{every₂-at, eq_list→≡}
use Rattle.ring.specs.Element.{component, add, scale, integer, cosine, basis_product, mul}
use Rattle.ring.proofs.Linear.{linear_sum, linear_scale}
use Rattle.ring.proofs.Product.{mul_left, mul_right}
use Rattle.ring.proofs.Ring.{scale-integer}
use Rattle.limits.specs.Limits.{places, components_size}
use Rattle.dct.specs.Transform.{factor, element, double_sum, double_sum_by}
use Rattle.dct.proofs.Factors.{eight_factor}
use Rattle.dct.proofs.Dimensions.{element_by-number, double_sum_cong}
use Rattle.blocks.specs.Blocks.{sample, elements_by, elements_of}
use Rattle.worked_examples.specs.Examples.{all, at_corner}

-- the sum of the factors of a frequency
factor-sum : ℕ → List ℤ
factor-sum k = sum [] add 8 (factor k)

-- the product of two of them: 128 at (0,0), and 0 elsewhere
corner : ℕ → ℤ
corner p = cond (eqb p 0) (pos 128) (pos 0)

product_at : ℕ → ℕ → Bool
product_at u v = eq_list (mul (factor-sum u) (factor-sum v)) (integer (corner (8 * u + v)))

product_test : T (every₂ 8 product_at)
unfolding product_at factor-sum corner factor sum cosine mul basis_product
product_test = tt

product : (u v : ℕ) → u < 8 → v < 8 → mul (factor-sum u) (factor-sum v) ≡ integer (corner (8 * u + v))
unfolding product_at
product u v h k = eq_list→≡ _ _ (every₂-at 8 product_at product_test u v h k)

double_sum_constant : (z : ℤ) (u v : ℕ) → double_sum (λ i j. z) u v ≡ scale z (mul (factor-sum u) (factor-sum v))
unfolding double_sum_by factor-sum
double_sum_constant z u v =
    sum_cong [] add 8 _ _ (λ i h. sym (linear_sum (scale z) (linear_scale z) 8 (λ j. mul (factor u i) (factor v j)))
    ∙ ap (scale z) (sym (linear_sum (mul (factor u i)) (mul_right (factor u i)) 8 (factor v))))
    ∙ sym (linear_sum (scale z) (linear_scale z) 8 (λ i. mul (factor u i) (factor-sum v)))
    ∙ ap (scale z) (sym (linear_sum (λ a. mul a (factor-sum v)) (mul_left (factor-sum v)) 8 (factor u)))

-- all samples z

samples_constant : (z : ℤ) (u v : ℕ) → double_sum (λ i j. sample (all z) (8 * i + j)) u v ≡ double_sum (λ i j. z) u v
samples_constant z u v =
    double_sum_cong factor (λ i j. sample (all z) (8 * i + j)) (λ i j. z) u v (λ i j h l. get_d_table places (λ n. z) (pos 0) (8 * i + j) (omega arith))

element_constant : (z : ℤ) (p : ℕ) → p < places → element 2 (sample (all z)) p ≡ integer (z *ℤ corner p)
element_constant z p h =
    element_by-number eight_factor (sample (all z)) p h
    ∙ samples_constant z (p / 8) (p % 8) ∙ double_sum_constant z (p / 8) (p % 8)
    ∙ ap (scale z) (product (p / 8) (p % 8) (omega arith) (omega arith))
    ∙ scale-integer z (corner (8 * (p / 8) + p % 8)) ∙ ap (λ (n : ℕ). integer (z *ℤ corner n)) split
  where
    split : 8 * (p / 8) + p % 8 ≡ p
    split = omega arith

component-integer : (s : ℤ) (k : ℕ) → k < 8 → component (integer s) k ≡ cond (eqb k 0) s (pos 0)
component-integer s k h = get_d_table 8 (λ i. cond (eqb i 0) s (pos 0)) (pos 0) k h

-- component i % 8 of element i / 8
corner_component : (z : ℤ) (i : ℕ) → component (integer (z *ℤ corner (i / 8))) (i % 8) ≡ cond (eqb i 0) (z *ℤ pos 128) (pos 0)
unfolding corner
corner_component z i = component-integer (z *ℤ corner (i / 8)) (i % 8) (omega arith) ∙ go (ℕ_discrete (i % 8) 0) (ℕ_discrete (i / 8) 0)
  where
    other : (i ≡ 0 → ⊥) → (pos 0) ≡ cond (eqb i 0) (z *ℤ pos 128) (pos 0)
    other d = rw (ne_eqb i 0 d)

    go : Dec (i % 8 ≡ 0) → Dec (i / 8 ≡ 0) → cond (eqb (i % 8) 0) (z *ℤ cond (eqb (i / 8) 0) (pos 128) (pos 0)) (pos 0) ≡ cond (eqb i 0) (z *ℤ pos 128) (pos 0)
    go (yes p) (yes q) = let e : i ≡ 0 = omega arith in rw (eq-eqb (i % 8) 0 p, eq-eqb (i / 8) 0 q, eq-eqb i 0 e)
    go (yes p) (no q) = rw (eq-eqb (i % 8) 0 p, ne_eqb (i / 8) 0 q) (*ℤ-zero z ∙ other (λ e. q (omega arith)))
    go (no p) q = rw (ne_eqb (i % 8) 0 p) (other (λ e. p (omega arith)))

-- u_0 at (0,0) is 128·z, and all else is 0
pub constant : (z : ℤ) → elements_of 2 (all z) ≡ at_corner (z *ℤ pos 128)
unfolding elements_by
constant z =
    is_table (pos 0) (table components_size f) components_size (λ i. cond (eqb i 0) (z *ℤ pos 128) (pos 0)) (length-table components_size f)
    (λ i h. get_d_table components_size f (pos 0) i h ∙ ap (λ a. component a (i % 8)) (element_constant z (i / 8) (omega arith)) ∙ corner_component z i)
  where
    f : ℕ → ℤ
    f i = component (element 2 (sample (all z)) (i / 8)) (i % 8)
