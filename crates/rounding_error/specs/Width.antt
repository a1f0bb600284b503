-- Rounding at a width b (01, "Rounding at a width"), for every b and every list m of table numbers, m_1 first: m_k is `component m (k - 1)`.
use Rattle.std.specs.Prelude.{◌&&◌, ◌+◌, ◌^◌, ◌<◌, ◌+ℤ◌, ◌-ℤ◌, ◌*ℤ◌}
use Rattle.integers.specs.Kit.{Bool, List, ℕ, suc, T, lit<, ℤ, pos}
use Rattle.std.proofs.Common.{pow_pos}
use Rattle.integers.specs.Nearest.{half_away}
use Rattle.integers.specs.Sum.{sum}
use Rattle.ring.specs.Element.{component}
use Rattle.rounding_error.specs.Fraction.{Fraction, plus}
use Rattle.rounding_error.specs.Root.{root, below, above}

-- n/2^b
abbrev pub over_power : ℤ → ℕ → Fraction
over_power n b = record { upper = n; lower = 2 ^ b; positive = pow_pos b }

-- the rule of the table number m_k: (2·m_k - 1)/2^(b+1) lies below c_k and (2·m_k + 1)/2^(b+1) above
unfoldable pub is_table_number : ℕ → ℕ → ℤ → Bool
is_table_number b k m = below (root k) (over_power (pos 2 *ℤ m -ℤ pos 1) (b + 1)) && above (root k) (over_power (pos 2 *ℤ m +ℤ pos 1) (b + 1))

-- all seven table numbers obey the rule
pub record TableAt (b : ℕ) (m : List ℤ) : Type 0 where
  pub numbers : (k : ℕ) → k < 7 → T (is_table_number b (suc k) (component m k))

-- N = 2^b·u_0 + m_1·u_1 + ... + m_7·u_7
unfoldable pub numerator : ℕ → List ℤ → List ℤ → ℤ
numerator b m u = pos (2 ^ b) *ℤ component u 0 +ℤ sum (pos 0) ◌+ℤ◌ 7 (λ k. component m k *ℤ component u (suc k))

-- for the theorems on a value against N: z/2^b less L/2^(b+1), and as much more
abbrev pub less_by : ℕ → ℕ → ℤ → Fraction
less_by L b z = over_power (pos 2 *ℤ z -ℤ pos L) (b + 1)

abbrev pub more_by : ℕ → ℕ → ℤ → Fraction
more_by L b z = over_power (pos 2 *ℤ z +ℤ pos L) (b + 1)

-- the coefficient, for the 2^s-th part of an element's value: the whole number nearest to N/2^(b+s), where a half goes away from zero (02, request 3)
unfoldable pub coefficient : ℕ → ℕ → List ℤ → List ℤ → ℤ
coefficient s b m u = half_away (numerator b m u) (2 ^ (b + s))

-- the distance that 01 promises for rounding, 1/2 + E/2^b, for a limit 2^(s+1)·E of the magnitudes' sum: 4·E with s = 1
abbrev pub distance : ℕ → ℕ → Fraction
distance E b = plus (record { upper = pos 1; lower = 2; positive = lit< tt }) (over_power (pos E) b)
