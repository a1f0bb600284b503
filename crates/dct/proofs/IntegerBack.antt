-- The transpose of the step, as far as whole numbers are asked of it: by halves, and what it makes of a step; and the sum that restores a column
-- from the components by which it is known.
use Rattle.std.specs.Prelude.{◌≡◌, ◌+◌, ◌*◌, ◌-◌, ◌%◌, ◌<◌, ◌+ℤ◌, ◌-ℤ◌, ◌*ℤ◌}
use Rattle.integers.specs.Kit.{refl, sym, ap, ap₂, ◌∙◌, Bool, cond, List, [], ℕ, T, eqb, ltb, ℤ, pos, neg_ℤ}
use native.Mathlib.Nat.{zero-lt-suc}
use native.Mathlib.Omega.{arith}
use lib.Dec.{ltb→lt}
use lib.IntN.{*ℤ-zero, *ℤ_comm, +ℤ_idl, neg_ℤ-+ℤ}
use borrow.Author.Tests.{eq-eqb, ne_eqb}
use Rattle.integers.specs.Sum.{sum}
use Rattle.integers.specs.Test.{eq_z, every₂}
use Rattle.integers.proofs.Integer.{*ℤ_assoc, *ℤ-+ℤ, *ℤ_cancel}
use Rattle.integers.proofs.Sums.{integers, sum-blocks, sum_cong, sum_map, sum-only, sum-plus, sum_swap}
use Rattle.integers.proofs.Tests.{every₂-at, eq_z→≡}
use Rattle.ring.specs.Element.{component, add, integer, cosine, mul, Eight}
use Rattle.ring.specs.Maps.{dot}
use Rattle.ring.proofs.Linear.{linear_sum}
use Rattle.ring.proofs.Product.{mul_right, mul_comm, mul_assoc}
use Rattle.ring.proofs.Components.{eight_cosine, eight_mul, component-add, component-scale}
use Rattle.ring.proofs.Ring.{mul-integer}
use Rattle.ring.proofs.Dots.{dot-negate, constant_product, dot-cosine}
use Rattle.dct.specs.Inverse.{step_back, integer_back, half_back, known_frequency, known_component, known_factor, weight, weighted}
use Rattle.dct.specs.Transform.{angle, factor, step, step_by}
use Rattle.dct.proofs.Factors.{eight_factor, eight_step}
use Rattle.dct.proofs.Inverse.{row_inverse}
use Rattle.dct.proofs.Halves.{even_mirrored, odd_mirrored}

exchange : (a b z : ℤ) → a *ℤ (b *ℤ z) ≡ b *ℤ (a *ℤ z)
exchange a b z = sym (*ℤ_assoc a b z) ∙ ap (λ (y : ℤ). y *ℤ z) (*ℤ_comm a b) ∙ *ℤ_assoc b a z

-- the sum of whole numbers over a range
abbrev total : ℕ → (ℕ → ℤ) → ℤ
total = sum (pos 0) ◌+ℤ◌

pub integer_back_cong : (r s : ℕ → List ℤ) (n : ℕ) → ((k : ℕ) → k < 8 → r k ≡ s k) → integer_back r n ≡ integer_back s n
unfolding integer_back
integer_back_cong r s n e = sum_cong (pos 0) ◌+ℤ◌ 8 _ _ (λ k h. rw (e k h))

pub weighted_cong : (y z : ℕ → ℤ) (n : ℕ) → ((k : ℕ) → k < 8 → y k ≡ z k) → weighted y n ≡ weighted z n
unfolding weighted
weighted_cong y z n e = sum_cong (pos 0) ◌+ℤ◌ 8 _ _ (λ k h. ap (λ (a : ℤ). weight n k *ℤ a) (e k h))

-- by halves: at places 0 to 3 the sum of what the even and the odd frequencies give, and at 7 to 4 the difference

even_and_odd : (g : ℕ → ℤ) → total 8 g ≡ total 4 (λ i. g (2 * i + 0)) +ℤ total 4 (λ i. g (2 * i + 1))
unfolding sum
even_and_odd g =
    sum-blocks (pos 0) ◌+ℤ◌ integers 4 2 g ∙ sum_cong (pos 0) ◌+ℤ◌ 4 _ _ (λ i h. pair i)
    ∙ sum-plus (pos 0) ◌+ℤ◌ integers 4 (λ i. g (2 * i + 0)) (λ i. g (2 * i + 1))
  where
    pair : (i : ℕ) → (pos 0 +ℤ g (i * 2 + 0)) +ℤ g (i * 2 + 1) ≡ g (2 * i + 0) +ℤ g (2 * i + 1)
    pair i = let e : i * 2 ≡ 2 * i = omega arith in rw (+ℤ_idl, e)

module _ (e o : ℕ → List ℤ) (n : ℕ) where
  pub back_sum : (r : ℕ → List ℤ) → ((i : ℕ) → i < 4 → e i ≡ r (2 * i + 0)) → ((i : ℕ) → i < 4 → o i ≡ r (2 * i + 1))
      → half_back 0 e n +ℤ half_back 1 o n ≡ integer_back r n
  unfolding integer_back half_back
  back_sum r evens odds =
      ap₂ ◌+ℤ◌ (sum_cong (pos 0) ◌+ℤ◌ 4 _ _ (λ i h. ap (λ a. dot a (factor (2 * i + 0) n)) (evens i h)))
      (sum_cong (pos 0) ◌+ℤ◌ 4 _ _ (λ i h. ap (λ a. dot a (factor (2 * i + 1) n)) (odds i h))) ∙ sym (even_and_odd (λ k. dot (r k) (factor k n)))

  pub back-difference : n < 4 → half_back 0 e (7 - n) +ℤ half_back 1 o (7 - n) ≡ half_back 0 e n -ℤ half_back 1 o n
  unfolding half_back
  back-difference h =
      ap₂ ◌+ℤ◌ (sum_cong (pos 0) ◌+ℤ◌ 4 _ _ (λ i l. ap (dot (e i)) (even_mirrored i n l h)))
      (sum_cong (pos 0) ◌+ℤ◌ 4 _ _ (λ i l. ap (dot (o i)) (odd_mirrored i n l h) ∙ dot-negate (o i) (factor (2 * i + 1) n))
      ∙ sym (sum_map (pos 0) ◌+ℤ◌ (pos 0) ◌+ℤ◌ neg_ℤ refl neg_ℤ-+ℤ 4 (λ i. dot (o i) (factor (2 * i + 1) n))))

-- of c_k × the step of a row, for k from 1 to 7, it makes 16 times component k of the row

angle_test : T (every₂ 8 (λ k n. ltb 0 (angle k n % 8)))
angle_test = tt

-- no angle is a multiple of 8
pub angle_between : (k n : ℕ) → k < 8 → n < 8 → 0 < angle k n % 8
angle_between k n h l = ltb→lt 0 (angle k n % 8) (every₂-at 8 (λ k n. ltb 0 (angle k n % 8)) angle_test k n h l)

twice : (r : ℕ → List ℤ) → ((k : ℕ) → k < 8 → Eight (r k)) → (n : ℕ) → n < 8 → pos 2 *ℤ integer_back r n ≡ component (step_back r n) 0
unfolding integer_back step_back factor
twice r eights n h =
    sum_map (pos 0) ◌+ℤ◌ (pos 0) ◌+ℤ◌ (λ z. pos 2 *ℤ z) refl (*ℤ-+ℤ (pos 2)) 8 (λ k. dot (r k) (factor k n))
    ∙ sum_cong (pos 0) ◌+ℤ◌ 8 _ _ (λ k l. sym (constant_product (angle k n) (angle_between k n l h) (eights k l)))
    ∙ sym (sum_map [] add (pos 0) ◌+ℤ◌ (λ a. component a 0) refl (λ a b. component-add a b 0) 8 (λ k. mul (r k) (factor k n)))

module _ (x : ℕ → List ℤ) (eights : (n : ℕ) → n < 8 → Eight (x n)) (k : ℕ) (some : 0 < k) (h : k < 8) where
  abbrev c : List ℤ
  c = cosine (pos k)

  times-step : (v : ℕ) → mul c (step x v) ≡ step (λ n. mul c (x n)) v
  unfolding step_by
  times-step v =
      linear_sum (mul c) (mul_right c) 8 (λ n. mul (x n) (factor v n)) ∙ sum_cong [] add 8 _ _ (λ n l. sym (mul_assoc c (x n) (factor v n)))

  constant : (n : ℕ) → n < 8 → component (mul c (x n)) 0 ≡ pos 2 *ℤ component (x n) k
  constant n l =
      ap (λ a. component a 0) (mul_comm c (x n)) ∙ constant_product k (omega arith) (eights n l) ∙ ap (λ (z : ℤ). pos 2 *ℤ z) (dot-cosine k some h (eights n l))

  pub integer_inverse : (n : ℕ) → n < 8 → integer_back (λ v. mul c (step x v)) n ≡ pos 16 *ℤ component (x n) k
  unfolding step_back
  integer_inverse n l = *ℤ_cancel (zero-lt-suc 1) (
      twice (λ v. mul c (step x v)) (λ v b. eight_mul (eight_cosine (pos k)) (eight_step eight_factor x eights v)) n l
      ∙ ap (λ a. component a 0) (sum_cong [] add 8 _ _ (λ v b. ap (λ a. mul a (factor v n)) (times-step v))
      ∙ row_inverse (λ n. mul c (x n)) (λ n b. eight_mul (eight_cosine (pos k)) (eights n b)) n l)
      ∙ component-scale (pos 16) (mul c (x n)) 0 ∙ ap (λ (z : ℤ). pos 16 *ℤ z) (constant n l) ∙ exchange (pos 16) (pos 2) (component (x n) k))

-- a column from the components by which it is known

pub weighted-times : (s : ℤ) (y : ℕ → ℤ) (n : ℕ) → weighted (λ k. s *ℤ y k) n ≡ s *ℤ weighted y n
unfolding weighted
weighted-times s y n =
    sum_cong (pos 0) ◌+ℤ◌ 8 _ _ (λ k h. exchange (weight n k) s (y k))
    ∙ sym (sum_map (pos 0) ◌+ℤ◌ (pos 0) ◌+ℤ◌ (λ z. s *ℤ z) (*ℤ-zero s) (*ℤ-+ℤ s) 8 (λ k. weight n k *ℤ y k))

eightfold_at : ℕ → ℕ → Bool
eightfold_at n i = eq_z (total 8 (λ k. weight n k *ℤ known_factor k i)) (cond (eqb i n) (pos 8) (pos 0))

eightfold_test : T (every₂ 8 eightfold_at)
unfolding sum eightfold_at weight known_factor factor cosine
eightfold_test = tt

pub column-restored : (x : ℕ → ℤ) (n : ℕ) → n < 8
    → weighted (λ k. component (step (λ i. integer (x i)) (known_frequency k)) (known_component k)) n ≡ pos 8 *ℤ x n
unfolding weighted step_by known_factor eightfold_at
column-restored x n h =
    sum_cong (pos 0) ◌+ℤ◌ 8 _ _ (λ k l. spread k)
    ∙ sum_swap (pos 0) ◌+ℤ◌ integers 8 8 (λ k i. w k *ℤ (x i *ℤ known_factor k i)) ∙ sum_cong (pos 0) ◌+ℤ◌ 8 _ _ (λ i l. gathered i)
    ∙ sum-only (pos 0) ◌+ℤ◌ integers 8 (λ i. x i *ℤ all i) n h (λ i l d. ap (λ (z : ℤ). x i *ℤ z) (all_is i l ∙ rw (ne_eqb i n d)) ∙ *ℤ-zero (x i))
    ∙ ap (λ (z : ℤ). x n *ℤ z) (all_is n h ∙ rw (eq-eqb n n refl)) ∙ *ℤ_comm (x n) (pos 8)
  where
    w : ℕ → ℤ
    w k = weight n k

    all : ℕ → ℤ
    all i = total 8 (λ k. w k *ℤ known_factor k i)

    all_is : (i : ℕ) → i < 8 → all i ≡ cond (eqb i n) (pos 8) (pos 0)
    all_is i l = eq_z→≡ _ _ (every₂-at 8 eightfold_at eightfold_test n i h l)

    gathered : (i : ℕ) → total 8 (λ k. w k *ℤ (x i *ℤ known_factor k i)) ≡ x i *ℤ all i
    gathered i =
        sum_cong (pos 0) ◌+ℤ◌ 8 _ _ (λ k l. exchange (w k) (x i) (known_factor k i))
        ∙ sym (sum_map (pos 0) ◌+ℤ◌ (pos 0) ◌+ℤ◌ (λ z. x i *ℤ z) (*ℤ-zero (x i)) (*ℤ-+ℤ (x i)) 8 (λ k. w k *ℤ known_factor k i))

    frequency : (k : ℕ) → component (step (λ i. integer (x i)) (known_frequency k)) (known_component k) ≡ total 8 (λ i. x i *ℤ known_factor k i)
    frequency k =
        sum_map [] add (pos 0) ◌+ℤ◌ (λ a. component a (known_component k)) refl (λ a b. component-add a b (known_component k)) 8
        (λ i. mul (integer (x i)) (factor (known_frequency k) i))
        ∙ sum_cong (pos 0) ◌+ℤ◌ 8 _ _ (λ i l. ap (λ a. component a (known_component k)) (mul-integer (x i) (eight_factor (known_frequency k) i))
        ∙ component-scale (x i) (factor (known_frequency k) i) (known_component k))

    spread : (k : ℕ) → w k *ℤ component (step (λ i. integer (x i)) (known_frequency k)) (known_component k) ≡ total 8 (λ i. w k *ℤ (x i *ℤ known_factor k i))
    spread k =
        ap (λ (z : ℤ). w k *ℤ z) (frequency k)
        ∙ sum_map (pos 0) ◌+ℤ◌ (pos 0) ◌+ℤ◌ (λ z. w k *ℤ z) (*ℤ-zero (w k)) (*ℤ-+ℤ (w k)) 8 (λ i. x i *ℤ known_factor k i)
