-- The sum of the magnitudes of an element's components, and how large a linear form can get where no component is large.
use Rattle.std.specs.Prelude.{◌≡◌, ◌∷◌, ◌+◌, ◌*◌, ◌≤◌, ◌<◌, ◌*ℤ◌}
use Rattle.integers.specs.Kit.{refl, sym, ap, ◌∙◌, List, [], ℕ, zero, suc, ℤ, pos, nat_abs, length}
use Prim.Native.Nat.{zero-le}
use native.Mathlib.Nat.{le_refl, le_trans, le_of_eq, mul-add, mul-zero, mul-le-mul_left, mul-le-mul_right}
use native.Mathlib.Omega.{arith}
use Rattle.integers.specs.Sum.{sum}
use Rattle.integers.proofs.Magnitudes.{nat_abs-add, nat_abs_mul}
use Rattle.integers.proofs.Sums.{naturals, sum_cong, sum_first, sum_le, sum_none, sum-plus, sum-times}
use Rattle.ring.specs.Element.{component, add, scale, only, combine, magnitudes, Eight}
use Rattle.ring.specs.Maps.{LinearMap, LinearForm}
use Rattle.ring.proofs.Linear.{linear_combine}
use Rattle.ring.proofs.Components.{expand}

-- the sum of the magnitudes of the components 0 to n - 1

abbrev pub sizes : List ℤ → ℕ → ℕ
sizes a n = sum 0 ◌+◌ n (λ k. nat_abs (component a k))

pub sizes_le : (n : ℕ) (a : List ℤ) → sizes a n ≤ magnitudes a
unfolding sum
sizes_le zero a = omega arith
sizes_le (suc n) [] = omega (arith, sizes_le n [])
sizes_le (suc n) (x ∷ a) = omega (arith, sum_first 0 ◌+◌ naturals n (λ k. nat_abs (component (x ∷ a) k)), sizes_le n a)

pub sizes-all : (n : ℕ) (a : List ℤ) → length a ≡ n → sizes a n ≡ magnitudes a
unfolding sum
sizes-all zero [] e = refl
sizes-all zero (x ∷ a) e = absurd (omega arith)
sizes-all (suc n) [] e = absurd (omega arith)
sizes-all (suc n) (x ∷ a) e = omega (arith, sum_first 0 ◌+◌ naturals n (λ k. nat_abs (component (x ∷ a) k)), sizes-all n a (omega arith))

pub component_le : (a : List ℤ) (k : ℕ) → nat_abs (component a k) ≤ magnitudes a
unfolding sum
component_le a k = omega (arith, sizes_le (suc k) a)

-- sums and multiples

pub magnitudes-add : (a b : List ℤ) → magnitudes (add a b) ≤ magnitudes a + magnitudes b
magnitudes-add [] b = omega arith
magnitudes-add (x ∷ a) [] = omega arith
magnitudes-add (x ∷ a) (y ∷ b) = omega (arith, nat_abs-add x y, magnitudes-add a b)

pub magnitudes-scale : (s : ℤ) (a : List ℤ) → magnitudes (scale s a) ≡ nat_abs s * magnitudes a
magnitudes-scale s [] = sym (mul-zero (nat_abs s))
magnitudes-scale s (x ∷ a) = rw (nat_abs_mul s x, magnitudes-scale s a) (sym (mul-add (nat_abs s) (nat_abs x) (magnitudes a)))

pub magnitudes-sum : (n : ℕ) (f : ℕ → List ℤ) → magnitudes (sum [] add n f) ≤ sum 0 ◌+◌ n (λ k. magnitudes (f k))
unfolding sum
magnitudes-sum zero f = le_refl 0
magnitudes-sum (suc n) f = omega (arith, magnitudes-add (sum [] add n f) (f n), magnitudes-sum n f)

-- n linear maps: if at each basis element the magnitudes of the n values sum to at most C, then at a they sum to at most C times the magnitudes of a

-- the sum of f 0 to f (n - 1) is linear in f
sum_linear : (n s : ℕ) (f g : ℕ → ℕ) → sum 0 ◌+◌ n (λ i. s * f i + g i) ≡ s * sum 0 ◌+◌ n f + sum 0 ◌+◌ n g
sum_linear n s f g =
    sum-plus 0 ◌+◌ naturals n (λ i. s * f i) g ∙ ap (λ (t : ℕ). t + sum 0 ◌+◌ n g) (sym (sum-times n s f))

module _ (n C : ℕ) where
  combinations : (f : ℕ → ℕ → List ℤ) (a : List ℤ) → ((k : ℕ) → k < length a → sum 0 ◌+◌ n (λ i. magnitudes (f i k)) ≤ C)
      → sum 0 ◌+◌ n (λ i. magnitudes (combine (f i) a)) ≤ C * magnitudes a
  combinations f [] h = le_of_eq (sum_none 0 ◌+◌ naturals n ∙ sym (mul-zero C))
  combinations f (x ∷ a) h =
      let first : ℕ → ℕ = λ i. magnitudes (f i zero) in
      let rest : ℕ → ℕ = λ i. magnitudes (combine (λ k. f i (suc k)) a) in
      let all = sum_le n (λ i. magnitudes (combine (f i) (x ∷ a))) (λ i. nat_abs x * first i + rest i)
      (λ i b. rw (magnitudes-scale x (f i zero)) at (magnitudes-add (scale x (f i zero)) (combine (λ k. f i (suc k)) a))) in
      let others = combinations (λ i k. f i (suc k)) a (λ k b. h (suc k) (omega arith)) in
      omega (arith, sum_linear n (nat_abs x) first rest, mul-le-mul_left (nat_abs x) (h zero (omega arith)))

  pub magnitudes_linear : (L : ℕ → List ℤ → List ℤ) → ((i : ℕ) → LinearMap (L i))
      → ((k : ℕ) → k < 8 → sum 0 ◌+◌ n (λ i. magnitudes (L i (only (pos 1) k))) ≤ C)
      → {a : List ℤ} → Eight a → sum 0 ◌+◌ n (λ i. magnitudes (L i a)) ≤ C * magnitudes a
  magnitudes_linear L l h {a} e =
      rw (sum_cong 0 ◌+◌ n (λ i. magnitudes (L i a)) (λ i. magnitudes (combine (λ k. L i (only (pos 1) k)) a)) (λ i b. ap magnitudes (spread i)))
      (combinations (λ i k. L i (only (pos 1) k)) a (λ k b. h k (rw e.eight at b)))
    where
      spread : (i : ℕ) → L i a ≡ combine (λ k. L i (only (pos 1) k)) a
      spread i = ap (L i) (sym (expand e)) ∙ linear_combine (L i) (l i) (only (pos 1)) a

-- a linear form: where no component of a has a magnitude above B, and the form's values at 1 and at c_1 to c_7 have magnitudes that sum to C at
-- most, its value at a has a magnitude of at most B·C
module _ (φ : List ℤ → ℤ) (l : LinearForm φ) (B C : ℕ) where
  form_combine : (f : ℕ → List ℤ) (a : List ℤ) → ((k : ℕ) → nat_abs (component a k) ≤ B)
      → nat_abs (φ (combine f a)) ≤ B * sum 0 ◌+◌ (length a) (λ k. nat_abs (φ (f k)))
  form_combine f [] h = rw l.nil zero-le
  form_combine f (x ∷ a) h =
      let rest = combine (λ k. f (suc k)) a in
      rw (l.sums (scale x (f zero)) rest, l.multiples x (f zero), sum_first 0 ◌+◌ naturals (length a) (λ k. nat_abs (φ (f k))))
      (omega (
        arith,
        nat_abs-add (x *ℤ φ (f zero)) (φ rest),
        nat_abs_mul x (φ (f zero)),
        mul-le-mul_right (nat_abs (φ (f zero))) (h zero),
        form_combine (λ k. f (suc k)) a (λ k. h (suc k)),
      ))

  pub form_bound : sum 0 ◌+◌ 8 (λ k. nat_abs (φ (only (pos 1) k))) ≤ C → {a : List ℤ} → Eight a → ((k : ℕ) → nat_abs (component a k) ≤ B) → nat_abs (φ a) ≤ B * C
  form_bound small {a} e h = le_trans (rw (e.eight, expand e) at (form_combine (only (pos 1)) a h)) (mul-le-mul_left B small)
