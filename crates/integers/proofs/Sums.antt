-- Sums over a range, in any commutative monoid: one set of laws for naturals, integers and elements.
use Rattle.std.specs.Prelude.{◌≡◌, ◌+◌, ◌*◌, ◌-◌, ◌≤◌, ◌<◌, ◌+ℤ◌, ◌*ℤ◌}
use Rattle.integers.specs.Kit.{refl, sym, ap, ap₂, ◌∙◌, ℕ, zero, suc, ℤ, pos, nat_abs}
use native.Mathlib.Nat.{add-zero, add-suc, add_assoc, add_comm, zero-add, zero-mul, mul-zero, suc-mul, mul-add, add-le-add, le_refl, mul-le-mul_left, not-suc-le-zero}
use native.Mathlib.Decide.{ℕ_discrete}
use native.Mathlib.Omega.{arith}
use lib.IntN.{+ℤ_comm, +ℤ_assoc, +ℤ_idl}
use Rattle.integers.specs.Sum.{sum}
use Rattle.integers.proofs.Magnitudes.{nat_abs-add, nat_abs_mul}

-- (a + b) + (c + d) = (a + c) + (b + d)
module _ {A : Type 0} (plus : A → A → A) (comm : (a b : A) → plus a b ≡ plus b a)
    (assoc : (a b c : A) → plus (plus a b) c ≡ plus a (plus b c)) where
  pub swap : (a b c d : A) → plus (plus a b) (plus c d) ≡ plus (plus a c) (plus b d)
  swap a b c d =
      assoc a b (plus c d) ∙ ap (plus a) (sym (assoc b c d) ∙ ap (λ x. plus x d) (comm b c) ∙ assoc c b d) ∙ sym (assoc a c (plus b d))

pub record CommutativeMonoid {A : Type 0} (none : A) (plus : A → A → A) : Type 0 where
  pub comm : (a b : A) → plus a b ≡ plus b a
  pub assoc : (a b c : A) → plus (plus a b) c ≡ plus a (plus b c)
  pub unit : (a : A) → plus none a ≡ a

pub naturals : CommutativeMonoid 0 ◌+◌
naturals = record { comm = add_comm; assoc = add_assoc; unit = zero-add }

pub integers : CommutativeMonoid (pos 0) ◌+ℤ◌
integers = record { comm = +ℤ_comm; assoc = +ℤ_assoc; unit = +ℤ_idl }

-- laws that ask nothing of the operation

module _ {A : Type 0} (none : A) (plus : A → A → A) where
  pub sum_cong : (n : ℕ) (f g : ℕ → A) → ((k : ℕ) → k < n → f k ≡ g k) → sum none plus n f ≡ sum none plus n g
  unfolding sum
  sum_cong zero f g h = refl
  sum_cong (suc n) f g h = rw (sum_cong n f g (λ k l. h k (omega arith)), h n (omega arith))

  -- a map that keeps `none` and sums of two keeps sums over a range
  pub sum_map : {B : Type 0} (none' : B) (plus' : B → B → B) (h : A → B) → h none ≡ none' → ((a b : A) → h (plus a b) ≡ plus' (h a) (h b))
      → (n : ℕ) (f : ℕ → A) → h (sum none plus n f) ≡ sum none' plus' n (λ k. h (f k))
  unfolding sum
  sum_map none' plus' h z p zero f = z
  sum_map none' plus' h z p (suc n) f = p (sum none plus n f) (f n) ∙ ap (λ x. plus' x (h (f n))) (sum_map none' plus' h z p n f)

-- laws of a commutative monoid

module _ {A : Type 0} (none : A) (plus : A → A → A) (M : CommutativeMonoid none plus) where
  unit_right : (a : A) → plus a none ≡ a
  unit_right a = M.comm a none ∙ M.unit a

  pub sum_none : (n : ℕ) → sum none plus n (λ k. none) ≡ none
  unfolding sum
  sum_none zero = refl
  sum_none (suc n) = rw (sum_none n) (M.unit none)

  pub sum-plus : (n : ℕ) (f g : ℕ → A) → sum none plus n (λ k. plus (f k) (g k)) ≡ plus (sum none plus n f) (sum none plus n g)
  unfolding sum
  sum-plus zero f g = sym (M.unit none)
  sum-plus (suc n) f g = rw (sum-plus n f g) (swap plus M.comm M.assoc _ _ _ _)

  -- the order of two sums does not matter
  pub sum_swap : (m n : ℕ) (f : ℕ → ℕ → A) → sum none plus m (λ i. sum none plus n (f i)) ≡ sum none plus n (λ j. sum none plus m (λ i. f i j))
  unfolding sum
  sum_swap zero n f = sym (sum_none n)
  sum_swap (suc m) n f = rw (sum_swap m n f) (sym (sum-plus n (λ j. sum none plus m (λ i. f i j)) (f m)))

  pub sum_append : (m n : ℕ) (f : ℕ → A) → sum none plus (m + n) f ≡ plus (sum none plus m f) (sum none plus n (λ k. f (m + k)))
  unfolding sum
  sum_append m zero f = rw add-zero (sym (unit_right _))
  sum_append m (suc n) f = rw (add-suc, sum_append m n f) (M.assoc _ _ _)

  -- the first term by itself
  pub sum_first : (n : ℕ) (f : ℕ → A) → sum none plus (suc n) f ≡ plus (f 0) (sum none plus n (λ k. f (suc k)))
  unfolding sum
  sum_first zero f = M.comm none (f 0)
  sum_first (suc n) f = rw (sum_first n f) (M.assoc _ _ _)

  -- from the last term to the first
  pub sum_reverse : (n : ℕ) (f : ℕ → A) → sum none plus n f ≡ sum none plus n (λ k. f (n - suc k))
  unfolding sum
  sum_reverse zero f = refl
  sum_reverse (suc n) f =
      let last : n ≡ suc n - 1 = omega arith in
      M.comm (sum none plus n f) (f n)
      ∙ ap₂ plus (ap f last) (sum_reverse n f ∙ sum_cong none plus n _ (λ k. f (suc n - suc (suc k))) (λ k h. ap f (omega arith)))
      ∙ sym (sum_first n (λ k. f (suc n - suc k)))

  -- a range of m blocks of n
  pub sum-blocks : (m n : ℕ) (f : ℕ → A) → sum none plus (m * n) f ≡ sum none plus m (λ i. sum none plus n (λ j. f (i * n + j)))
  unfolding sum
  sum-blocks zero n f = rw zero-mul
  sum-blocks (suc m) n f = rw (suc-mul, sum_append (m * n) n f, sum-blocks m n f)

  -- only the term at r counts
  pub sum-only : (n : ℕ) (f : ℕ → A) (r : ℕ) → r < n → ((k : ℕ) → k < n → (k ≡ r → ⊥) → f k ≡ none) → sum none plus n f ≡ f r
  unfolding sum
  sum-only zero f r h z = absurd (not-suc-le-zero h)
  sum-only (suc n) f r h z = go (ℕ_discrete r n) (λ l. sum-only n f r l (λ k b. z k (omega arith)))
    where
      go : Dec (r ≡ n) → (r < n → sum none plus n f ≡ f r) → plus (sum none plus n f) (f n) ≡ f r
      go (yes p) rest =
          rw (sum_cong none plus n f (λ k. none) (λ k b. z k (omega arith) (λ e. omega arith)), sum_none n, p) (M.unit (f n))
      go (no q) rest = rw (rest (omega arith), z n (omega arith) (λ e. omega arith)) (unit_right (f r))

-- sums of naturals

pub sum-times : (n s : ℕ) (f : ℕ → ℕ) → s * sum 0 ◌+◌ n f ≡ sum 0 ◌+◌ n (λ k. s * f k)
sum-times n s f = sum_map 0 ◌+◌ 0 ◌+◌ (λ t. s * t) (mul-zero s) (mul-add s) n f

pub sum_le : (n : ℕ) (f g : ℕ → ℕ) → ((k : ℕ) → k < n → f k ≤ g k) → sum 0 ◌+◌ n f ≤ sum 0 ◌+◌ n g
unfolding sum
sum_le zero f g h = le_refl 0
sum_le (suc n) f g h = add-le-add (sum_le n f g (λ k l. h k (omega arith))) (h n (omega arith))

-- the magnitude of a sum of integers
pub nat_abs-sum : (n B : ℕ) (f : ℕ → ℤ) → ((k : ℕ) → k < n → nat_abs (f k) ≤ B) → nat_abs (sum (pos 0) ◌+ℤ◌ n f) ≤ n * B
unfolding sum
nat_abs-sum zero B f h = omega arith
nat_abs-sum (suc n) B f h = omega (arith, nat_abs-add (sum (pos 0) ◌+ℤ◌ n f) (f n), nat_abs-sum n B f (λ k l. h k (omega arith)), h n (omega arith))

pub nat_abs-products : (n B : ℕ) (w f : ℕ → ℤ) → ((k : ℕ) → k < n → nat_abs (f k) ≤ B) → nat_abs (sum (pos 0) ◌+ℤ◌ n (λ k. w k *ℤ f k)) ≤ sum 0 ◌+◌ n (λ k. nat_abs (w k)) * B
unfolding sum
nat_abs-products zero B w f h = omega arith
nat_abs-products (suc n) B w f h =
    omega (
      arith,
      nat_abs-add (sum (pos 0) ◌+ℤ◌ n (λ k. w k *ℤ f k)) (w n *ℤ f n),
      nat_abs_mul (w n) (f n),
      mul-le-mul_left (nat_abs (w n)) (h n (omega arith)),
      nat_abs-products n B w f (λ k l. h k (omega arith)),
    )
