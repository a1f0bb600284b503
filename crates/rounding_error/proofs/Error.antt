-- How near any whole number nearest to N/2^(b+s) lies to the 2^s-th part of an element's value, at every width: the value against N, by the rule of
-- the table numbers, and N against the number, by what nearness is.
use Rattle.std.specs.Prelude.{◌+◌, ◌*◌, ◌^◌, ◌≤◌, ◌<◌, ◌+ℤ◌, ◌-ℤ◌, ◌*ℤ◌}
use Rattle.integers.specs.Kit.{List, ℕ, suc, T, ℤ, pos, negsuc, nat_abs}
use native.Mathlib.Nat.{le_refl}
use native.Mathlib.Omega.{arith}
use lib.Pow.{pow-add}
use lib.Signed.{◌≤ℤ◌, ≤ℤ_refl}
use Rattle.integers.specs.Nearest.{Nearest}
use Rattle.integers.specs.Sum.{sum}
use Rattle.integers.proofs.Nearest.{size_by_parts}
use Rattle.integers.proofs.Sums.{naturals, sum_first}
use Rattle.integers.proofs.Integer.{as_dif, dif_le, difs, *ℤ_pos1, ≤ℤ_trans, +ℤ-≤ℤ, neg_ℤ-≤ℤ, ≤ℤ-*ℤ, pos_≤ℤ, <ℤ→≤ℤ}
use Rattle.ring.specs.Element.{component, magnitudes}
use Rattle.ring.proofs.Magnitude.{sizes_le}
use Rattle.rounding_error.specs.Fraction.{Fraction, whole, plus, times, minus, at_most}
use Rattle.rounding_error.specs.Root.{root, below, above}
use Rattle.rounding_error.specs.Value.{with_fractions, ValueAtMost, ValueAtLeast, Near}
use Rattle.rounding_error.specs.Width.{less_by, more_by, TableAt, numerator, distance}
use Rattle.rounding_error.proofs.Order.{cross, less_yes, same-lower, at_most_trans}
use Rattle.rounding_error.proofs.Below.{below-less-above}
use Rattle.rounding_error.proofs.Tables.{under_below, over-above}
use Rattle.rounding_error.proofs.Bounds.{rising, falling, parts, double, within_all}

-- the value against N: within L/2^(b+1) of N/2^b, where the magnitudes sum to at most L

module _ (b L : ℕ) (m u : List ℤ) (table : TableAt b m) (small : magnitudes u ≤ L) where
  enough : 1 * (0 + sum 0 ◌+◌ 7 (parts u)) ≤ L
  enough = omega (arith, sum_first 0 ◌+◌ naturals 7 (λ k. nat_abs (component u k)), sizes_le 8 u)

  module _ (k : ℕ) (l : k < 7) (p : Fraction) where
    below-over : T (below (root (suc k)) p) → cross p (more_by 1 b (component m k)) ≤ℤ cross (more_by 1 b (component m k)) p
    below-over h =
        let n = component m k in
        <ℤ→≤ℤ (less_yes p (more_by 1 b n) (below-less-above (root (suc k)) p (more_by 1 b n) h (over-above b (suc k) n (table.numbers k l))))

    above_under : T (above (root (suc k)) p) → cross (less_by 1 b (component m k)) p ≤ℤ cross p (less_by 1 b (component m k))
    above_under h =
        let n = component m k in
        <ℤ→≤ℤ (less_yes (less_by 1 b n) p (below-less-above (root (suc k)) (less_by 1 b n) p (under_below b (suc k) n (table.numbers k l)) h))

  pub value_at_most_over : ValueAtMost u (more_by L b (numerator b m u))
  value_at_most_over q h =
      (≤ℤ_trans
      (within_all rising (pos 1) b m u q
      (λ k l t. below-over k l (q (suc k)) (h.at_positive (suc k) (omega arith) l t))
      (λ k l t. above_under k l (q (suc k)) (h.at_negative (suc k) (omega arith) l t)))
      (≤ℤ-*ℤ (with_fractions u q).lower (+ℤ-≤ℤ (≤ℤ_refl (pos 2 *ℤ numerator b m u)) (pos_≤ℤ enough)))).le

  pub value_at_least-under : ValueAtLeast u (less_by L b (numerator b m u))
  value_at_least-under q h =
      (≤ℤ_trans
      (≤ℤ-*ℤ (with_fractions u q).lower (+ℤ-≤ℤ (≤ℤ_refl (pos 2 *ℤ numerator b m u)) (neg_ℤ-≤ℤ (pos_≤ℤ enough))))
      (within_all falling (negsuc 0) b m u q
      (λ k l t. above_under k l (q (suc k)) (h.at_positive (suc k) (omega arith) l t))
      (λ k l t. below-over k l (q (suc k)) (h.at_negative (suc k) (omega arith) l t)))).le

-- N against the number y

-- what rounding adds, over 2·B: as y is nearest to z/(B·S), 2z lies within B·S of 2·B·S·y
within : (z y : ℤ) (S B E : ℕ) → Nearest z (B * S) y
    → ((pos 2 *ℤ z +ℤ pos (2 * S * E)) ≤ℤ ((pos S *ℤ y) *ℤ pos (2 * B) +ℤ pos (S * (1 * B + E * 2) * 1)))
    × (((pos S *ℤ y) *ℤ pos (2 * B) -ℤ pos (1 * (S * (1 * B + E * 2)))) ≤ℤ (pos 2 *ℤ z -ℤ pos (2 * S * E)))
within z y S B E N =
    let h = (size_by_parts z y (B * S) _).0 (le_refl _) in
    rw (as_dif z, as_dif y, as_dif (pos 2), as_dif (pos S), as_dif (pos (2 * B)), as_dif (pos (2 * S * E)))
    (rw (as_dif (pos (S * (1 * B + E * 2) * 1)), as_dif (pos (1 * (S * (1 * B + E * 2)))))
    (simp difs ((dif_le _ _ _ _).1 (omega arith), (dif_le _ _ _ _).1 (omega arith))))

-- 2^s·y + 2^s·d and 2^s·y - 2^s·d
abbrev pub top : ℕ → ℤ → Fraction → Fraction
top s y d = plus (times (pos (2 ^ s)) (whole y)) (times (pos (2 ^ s)) d)

abbrev pub bottom : ℕ → ℤ → Fraction → Fraction
bottom s y d = minus (times (pos (2 ^ s)) (whole y)) (times (pos (2 ^ s)) d)

module _ (s b E : ℕ) {z y : ℤ} (nearest : Nearest z (2 ^ (b + s)) y) where
  abbrev L : ℕ
  L = 2 ^ (s + 1) * E

  abbrev d : Fraction
  d = distance E b

  both : ((pos 2 *ℤ z +ℤ pos L) ≤ℤ (top s y d).upper) × ((bottom s y d).upper ≤ℤ (pos 2 *ℤ z -ℤ pos L))
  both = rw (double s, *ℤ_pos1 (negsuc 0 *ℤ pos (2 ^ s * (1 * 2 ^ b + E * 2)))) (within z y (2 ^ s) (2 ^ b) E (rw (pow-add 2 b s) at nearest))

  pub over_at_most_top : T (at_most (more_by L b z) (top s y d))
  over_at_most_top = same-lower (more_by L b z) (top s y d) (omega (arith, double b)) both.0

  pub under_at_least-bottom : T (at_most (bottom s y d) (less_by L b z))
  under_at_least-bottom = same-lower (bottom s y d) (less_by L b z) (omega (arith, double b)) both.1

-- the theorem

module _ (s b E : ℕ) (m u : List ℤ) (table : TableAt b m) (small : magnitudes u ≤ 2 ^ (s + 1) * E) (y : ℤ)
    (nearest : Nearest (numerator b m u) (2 ^ (b + s)) y) where
  pub near : Near s y u (distance E b)
  near =
      let L = 2 ^ (s + 1) * E in
      let N = numerator b m u in
      let d = distance E b in
      record {
        value_at_most = λ q h.
            at_most_trans (with_fractions u q) (more_by L b N) (top s y d) (value_at_most_over b L m u table small q h) (over_at_most_top s b E nearest);
        value_at_least = λ q h.
            at_most_trans (bottom s y d) (less_by L b N) (with_fractions u q) (under_at_least-bottom s b E nearest) (value_at_least-under b L m u table small q h);
      }
