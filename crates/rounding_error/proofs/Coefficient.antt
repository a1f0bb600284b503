-- What the coefficient is: a nearest number, by the rule for halves. The error law and the sizes ask no more of it than to be nearest, and do not know
-- where a half goes.
use Rattle.std.specs.Prelude.{◌≡◌, ◌+◌, ◌*◌, ◌^◌, ◌≤◌, ◌<◌, ◌+ℤ◌, ◌-ℤ◌, ◌*ℤ◌}
use Rattle.integers.specs.Kit.{refl, sym, ap, ap₂, ◌∙◌, List, ℕ, suc, ℤ, pos, neg_ℤ, nat_abs}
use native.Mathlib.Omega.{arith}
use lib.IntN.{neg_ℤ-+ℤ, +ℤ_idr, +ℤ_invr, *ℤ-zero, pos-*ℤ-pos}
use lib.Pow.{pow-add, pow_pos}
use Rattle.integers.specs.Nearest.{Rounded, Away, half_away}
use Rattle.integers.specs.Sum.{sum}
use Rattle.integers.proofs.Integer.{*ℤ_assoc, *ℤ-neg_ℤ}
use Rattle.integers.proofs.Nearest.{half_away-rounded, only-half_away, half_away_mirrored}
use Rattle.integers.proofs.Sums.{integers, sum_cong, sum_map, sum_none}
use Rattle.ring.specs.Element.{component, negate, magnitudes}
use Rattle.ring.proofs.Components.{component-negate}
use Rattle.rounding_error.specs.Value.{Near}
use Rattle.rounding_error.specs.Width.{TableAt, numerator, coefficient, distance}
use Rattle.rounding_error.proofs.Error.{near}

module _ (s b : ℕ) (m u : List ℤ) where
  -- "rounding sends a half away from zero", and no other number is rounded so
  pub coefficient-rounded : Rounded Away (numerator b m u) (2 ^ (b + s)) (coefficient s b m u)
  unfolding coefficient
  coefficient-rounded = half_away-rounded (pow_pos (b + s)) (numerator b m u)

  pub only-coefficient : {y : ℤ} → Rounded Away (numerator b m u) (2 ^ (b + s)) y → y ≡ coefficient s b m u
  unfolding coefficient
  only-coefficient = only-half_away (pow_pos (b + s))

  pub coefficient_near : (E : ℕ) → TableAt b m → magnitudes u ≤ 2 ^ (s + 1) * E → Near s (coefficient s b m u) u (distance E b)
  coefficient_near E table small = near s b E m u table small (coefficient s b m u) coefficient-rounded.nearest

-- an element that is 2^s times a whole number z: nothing is left to round
module _ (s b : ℕ) (m u : List ℤ) (z : ℤ) (whole : component u 0 ≡ pos (2 ^ s) *ℤ z) (alone : (k : ℕ) → k < 7 → component u (suc k) ≡ pos 0) where
  pub numerator-whole : numerator b m u ≡ pos (2 ^ (b + s)) *ℤ z
  unfolding numerator
  numerator-whole =
      let power : pos (2 ^ b) *ℤ pos (2 ^ s) ≡ pos (2 ^ (b + s)) = pos-*ℤ-pos (2 ^ b) (2 ^ s) ∙ ap pos (sym (pow-add 2 b s)) in
      let head = ap (λ t. pos (2 ^ b) *ℤ t) whole ∙ sym (*ℤ_assoc (pos (2 ^ b)) (pos (2 ^ s)) z) ∙ ap (λ t. t *ℤ z) power in
      let rest = sum_cong (pos 0) ◌+ℤ◌ 7 _ (λ k. pos 0) (λ k h. ap (λ t. component m k *ℤ t) (alone k h) ∙ *ℤ-zero (component m k)) ∙ sum_none (pos 0) ◌+ℤ◌ integers 7 in
      ap₂ ◌+ℤ◌ head rest ∙ +ℤ_idr (pos (2 ^ (b + s)) *ℤ z)

  pub coefficient-whole : coefficient s b m u ≡ z
  coefficient-whole =
      let D = 2 ^ (b + s) in
      let none : nat_abs (pos D *ℤ z -ℤ numerator b m u) ≡ 0 = rw numerator-whole (ap nat_abs (+ℤ_invr (pos D *ℤ z))) in
      sym (only-coefficient s b m u (record { nearest = record { within_half = omega arith }; at_half = λ e. absurd (omega (arith, pow_pos (b + s))) }))

-- all components negated

product_negated : (x : ℤ) (u : List ℤ) (k : ℕ) → x *ℤ component (negate u) k ≡ neg_ℤ (x *ℤ component u k)
product_negated x u k = ap (λ z. x *ℤ z) (component-negate u k) ∙ *ℤ-neg_ℤ x (component u k)

numerator_negated : (b : ℕ) (m u : List ℤ) → numerator b m (negate u) ≡ neg_ℤ (numerator b m u)
unfolding numerator
numerator_negated b m u =
    ap₂ ◌+ℤ◌ (product_negated (pos (2 ^ b)) u 0)
    (sum_cong (pos 0) ◌+ℤ◌ 7 _ _ (λ k h. product_negated (component m k) u (suc k)) ∙ sym (sum_map (pos 0) ◌+ℤ◌ (pos 0) ◌+ℤ◌ neg_ℤ refl neg_ℤ-+ℤ 7 term))
    ∙ sym (neg_ℤ-+ℤ (pos (2 ^ b) *ℤ component u 0) (sum (pos 0) ◌+ℤ◌ 7 term))
  where
    term : ℕ → ℤ
    term k = component m k *ℤ component u (suc k)

pub coefficient_negated : (s b : ℕ) (m u : List ℤ) → coefficient s b m (negate u) ≡ neg_ℤ (coefficient s b m u)
unfolding coefficient
coefficient_negated s b m u =
    ap (λ n. half_away n (2 ^ (b + s))) (numerator_negated b m u) ∙ half_away_mirrored (pow_pos (b + s)) (numerator b m u)
