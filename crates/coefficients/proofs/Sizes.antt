-- How large the sums and products of rounding get, and that the coefficient fits an i32.
use Rattle.std.specs.Prelude.{◌≡◌, ◌+◌, ◌*◌, ◌^◌, ◌≤◌, ◌<◌, ◌+ℤ◌, ◌*ℤ◌}
use Rattle.integers.specs.Kit.{refl, sym, List, ℕ, zero, suc, T, lit<, ℤ, pos, nat_abs}
use native.Mathlib.Nat.{zero-add, le_refl, le_trans, lt_of_le_of_lt, mul-add, mul-le-mul, mul-le-mul_left, mul-le-mul_right}
use native.Mathlib.Omega.{arith}
use lib.IntN.{+ℤ_assoc, +ℤ_idr}
use lib.Pow.{pow_mono, pow_pos}
use mir.Syntax.{w32}
use mir.Val.{SFits}
use Rattle.integers.specs.Sum.{sum}
use Rattle.integers.proofs.Magnitudes.{nat_abs-add, nat_abs_mul, small_fits}
use Rattle.integers.proofs.Nearest.{nearest_small}
use Rattle.ring.specs.Element.{component, magnitudes}
use Rattle.ring.proofs.Magnitude.{sizes, sizes_le, component_le}
use Rattle.limits.specs.Limits.{magnitudes_limit, coefficient_limit, halvings}
use Rattle.rounding_error.specs.Width.{numerator, coefficient}
use Rattle.rounding_error.proofs.Coefficient.{coefficient-rounded}
use Rattle.coefficients.specs.Preconditions.{ample_limit, largest, partial, Halvings}
use Rattle.coefficients.specs.Tables.{width, table_numbers, first_number}
use Rattle.coefficients.proofs.Tables.{at_most-first, first_bounds, number_small, width_small}

-- the numerator, summed from the front

pub partial_none : (b : ℕ) (m u : List ℤ) → partial b m u 0 ≡ pos (2 ^ b) *ℤ component u 0
unfolding sum
partial_none b m u = +ℤ_idr (pos (2 ^ b) *ℤ component u 0)

pub partial_more : (b : ℕ) (m u : List ℤ) (n : ℕ) → partial b m u (suc n) ≡ partial b m u n +ℤ component m n *ℤ component u (suc n)
unfolding sum
partial_more b m u n =
    let terms : ℕ → ℤ = λ k. component m k *ℤ component u (suc k) in
    sym (+ℤ_assoc (pos (2 ^ b) *ℤ component u 0) (sum (pos 0) ◌+ℤ◌ n terms) (terms n))

pub partial-all : (b : ℕ) (m u : List ℤ) → partial b m u 7 ≡ numerator b m u
unfolding numerator
partial-all b m u = refl

-- how large it gets

-- for N of u at b: m are the table numbers of a width, and u is within the limit
pub record Allowed (b : ℕ) (m u : List ℤ) : Type 0 where
  pub at_width : T (width b)
  pub are_numbers : m ≡ table_numbers b
  pub in_limit : magnitudes u ≤ ample_limit

pub allowed : {b : ℕ} {m u : List ℤ} → T (width b) → m ≡ table_numbers b → magnitudes u ≤ ample_limit → Allowed b m u
allowed w e l = record { at_width = w; are_numbers = e; in_limit = l }

product_le : (x y : ℤ) {P : ℕ} → nat_abs x ≤ P → nat_abs (x *ℤ y) ≤ P * nat_abs y
product_le x y h = rw (nat_abs_mul x y) (mul-le-mul_right (nat_abs y) h)

module _ {b : ℕ} {m u : List ℤ} (A : Allowed b m u) where
  number_le : (k : ℕ) → k < 7 → nat_abs (component m k) ≤ first_number b
  number_le k h = rw A.are_numbers (at_most-first b A.at_width k h)

  first_le : first_number b ≤ 2 ^ 27
  first_le = let h : b + 1 ≤ 27 = omega (arith, width_small b A.at_width) in le_trans (number_small b A.at_width 0 (lit< tt)) (pow_mono h)

  -- m_1 times the magnitudes of the first n components, which no sum of n terms exceeds
  scaled_sizes_le : (n : ℕ) → first_number b * sizes u n ≤ largest
  scaled_sizes_le n = mul-le-mul first_le (le_trans (sizes_le n u) A.in_limit)

  term_le : (k : ℕ) → k < 7 → nat_abs (component m k *ℤ component u (suc k)) ≤ first_number b * nat_abs (component u (suc k))
  term_le k h = product_le (component m k) (component u (suc k)) (number_le k h)

  partial_le : (n : ℕ) → n ≤ 7 → nat_abs (partial b m u n) ≤ first_number b * sizes u (suc n)
  unfolding sum
  partial_le zero h = rw (partial_none b m u, zero-add) (product_le (pos (2 ^ b)) (component u 0) (first_bounds b A.at_width).0)
  partial_le (suc n) h =
      rw (partial_more b m u n, mul-add)
      (omega (arith, nat_abs-add (partial b m u n) (component m n *ℤ component u (suc n)), partial_le n (omega arith), term_le n (omega arith)))

  pub partial_small : (n : ℕ) → n ≤ 7 → nat_abs (partial b m u n) ≤ largest
  partial_small n h = le_trans (partial_le n h) (scaled_sizes_le (suc n))

  pub term_small : (k : ℕ) → k < 7 → nat_abs (component m k *ℤ component u (suc k)) ≤ largest
  unfolding sum
  term_small k h = le_trans (term_le k h) (le_trans (mul-le-mul_left (first_number b) (omega arith)) (scaled_sizes_le (suc (suc k))))

  pub component_small : (k : ℕ) → nat_abs (component u k) ≤ ample_limit
  component_small k = le_trans (component_le u k) A.in_limit

  pub number-less : (k : ℕ) → k < 7 → nat_abs (component m k) ≤ 2 ^ 27
  number-less k h = le_trans (number_le k h) first_le

  -- the numerator
  pub numerator_small : nat_abs (numerator b m u) ≤ largest
  numerator_small = rw (partial-all b m u) at (partial_small 7 (le_refl 7))

  -- the coefficient, as any number nearest to N/2^(b+h), by a bound of m_1 times the magnitudes
  coefficient_le : (h B : ℕ) → first_number b * magnitudes u ≤ 2 ^ (b + h) * B → nat_abs (coefficient h b m u) ≤ B
  coefficient_le h B l =
      let n = le_trans (rw (partial-all b m u) at (partial_le 7 (le_refl 7))) (mul-le-mul_left (first_number b) (sizes_le 8 u)) in
      nearest_small B (pow_pos (b + h)) (le_trans n l) (coefficient-rounded h b m u).nearest

  -- in two dimensions it is one that quantization takes
  pub coefficient_small : magnitudes u ≤ magnitudes_limit → nat_abs (coefficient halvings b m u) ≤ coefficient_limit
  coefficient_small l = coefficient_le halvings coefficient_limit (le_trans (mul-le-mul_left (first_number b) l) (first_bounds b A.at_width).1)

  pub coefficient_fits : {h : ℕ} → Halvings h → SFits w32 (coefficient h b m u)
  coefficient_fits {h} H =
      let more : b + 1 ≤ b + h = omega arith in
      small_fits w32 (coefficient h b m u)
      (lt_of_le_of_lt (coefficient_le h ample_limit (mul-le-mul (le_trans (number_small b A.at_width 0 (lit< tt)) (pow_mono more)) A.in_limit)) (lit< tt))
