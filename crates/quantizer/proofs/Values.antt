-- One coefficient and its step: its quantized value by magnitude and sign, the dequantized coefficient, and there and back again.
use Rattle.std.specs.Prelude.{◌≡◌, ◌+◌, ◌*◌, ◌/◌, ◌^◌, ◌≤◌, ◌<◌, ◌-ℤ◌}
use Rattle.integers.specs.Kit.{sym, ap, subst, true, false, List, ℕ, zero, suc, T, lit<, ℤ, pos, negsuc, neg_ℤ, nat_abs, get_or}
use Prim.Native.Nat.{zero-le}
use native.Mathlib.Nat.{lt_of_le_of_lt, mul-le-mul, not-suc-le-zero}
use native.Mathlib.Omega.{arith}
use lib.IntN.{+ℤ_invr, -ℤ-+ℤ_cancel}
use lib.Signed.{lt_z, nat_abs-le}
use mir.Syntax.{w32}
use mir.Val.{SFits}
use borrow.Author.Tests.{ltb-true, ltb-false, le-ltb}
use Rattle.integers.specs.Nearest.{Rounded, Away, half_up, half_away}
use Rattle.integers.proofs.Nearest.{nearest_small, half_away-rounded, only-half_away, half_away_mirrored}
use Rattle.integers.proofs.Magnitudes.{nat_abs_mul, nat_abs-add}
use Rattle.limits.specs.Limits.{places, step_limit, coefficient_limit, dequantized_limit}
use Rattle.quantizer.specs.Quantizer.{step_outside, step_of, Steps, divisor, quantized, dequantized}
use Rattle.quantizer.specs.ZigZag.{place_at, index_of, indices_by_row}
use Rattle.quantizer.proofs.ZigZag.{index_of-place, index_below, index_read}

-- a step in range
pub inside : (s : ℕ) → step_outside s ≡ false → (0 < s) × (s ≤ step_limit)
inside zero e = absurd (subst T e tt)
inside (suc n) e = (omega arith, ltb-false step_limit (suc n) (rw (le-ltb (suc n) 1 (omega arith)) at e))

-- that of each place is
pub step-inside : {steps : List ℕ} → Steps steps → (p : ℕ) → p < places → (0 < step_of steps p) × (step_of steps p ≤ step_limit)
step-inside {steps} S p h = inside (step_of steps p) (S.in_range (index_of p) (index_below p h))

-- the list has the steps in the zig-zag order of their places
pub step_in_order : (steps : List ℕ) (k : ℕ) → k < places → step_of steps (place_at k) ≡ get_or steps k 0
step_in_order steps k h = ap (λ k. get_or steps k 0) (index_of-place k h)

-- the step of a place as the code reads it
pub step-read : (steps : List ℕ) {order : List ℕ} → order ≡ indices_by_row → (p : ℕ) → p < places → get_or steps (get_or order p 0) 0 ≡ step_of steps p
step-read steps e p h = ap (λ k. get_or steps k 0) (index_read e p h)

-- the quantized value of a magnitude a
abbrev pub rounded_quotient : ℕ → ℕ → ℕ
rounded_quotient a s = (a + 4 * s) / (8 * s)

module _ (s : ℕ) where
  half : divisor s / 2 ≡ 4 * s
  half = omega arith

  pub quantized_positive : (y : ℤ) → lt_z y (pos 0) ≡ false → pos (rounded_quotient (nat_abs y) s) ≡ quantized y s
  unfolding half_away half_up
  quantized_positive (pos a) e = ap (λ h. pos ((a + h) / (8 * s))) (sym half)
  quantized_positive (negsuc a) e = absurd (subst T e tt)

  pub quantized-negative : (y : ℤ) → lt_z y (pos 0) ≡ true → neg_ℤ (pos (rounded_quotient (nat_abs y) s)) ≡ quantized y s
  unfolding half_away half_up
  quantized-negative (pos a) e = absurd (not-suc-le-zero (ltb-true a 0 e))
  quantized-negative (negsuc a) e = ap (λ h. neg_ℤ (pos ((suc a + h) / (8 * s)))) (sym half)

-- the product of any 32-bit number fits 64 bits
pub product_small : (q : ℤ) (s : ℕ) → SFits w32 q → s ≤ step_limit → nat_abs (dequantized q s) < 2 ^ 63
product_small q s f h =
    let small : divisor s ≤ divisor step_limit = omega arith in
    rw (nat_abs_mul (pos (divisor s)) q) (lt_of_le_of_lt (mul-le-mul small (nat_abs-le q f.sfits)) (lit< tt))

-- there and back, for a step that is not 0

module _ (s : ℕ) (h : 0 < s) where
  positive : 0 < divisor s
  positive = omega arith

  -- "to the nearest, halves away from zero", and no other number is
  pub quantized-rounded : (y : ℤ) → Rounded Away y (divisor s) (quantized y s)
  quantized-rounded = half_away-rounded positive

  pub only-quantized : {y q : ℤ} → Rounded Away y (divisor s) q → q ≡ quantized y s
  only-quantized = only-half_away positive

  -- it is no larger than a coefficient may be
  pub quantized_small : (y : ℤ) → nat_abs y ≤ coefficient_limit → nat_abs (quantized y s) ≤ coefficient_limit
  quantized_small y k = nearest_small coefficient_limit positive (omega arith) (quantized-rounded y).nearest

  pub quotient_small : (a : ℕ) → a ≤ coefficient_limit → rounded_quotient a s ≤ coefficient_limit
  quotient_small a k = rw (ap nat_abs (quantized_positive s (pos a) (le-ltb a 0 zero-le))) (quantized_small (pos a) k)

  -- "The distance between coefficient and way back is at most 4 × step"
  pub distance : (y : ℤ) → nat_abs (dequantized (quantized y s) s -ℤ y) ≤ 4 * s
  distance y = omega (arith, (quantized-rounded y).nearest.within_half)

  -- what comes back of it is within its limit
  pub dequantized_small : (y : ℤ) → nat_abs y ≤ coefficient_limit → s ≤ step_limit → nat_abs (dequantized (quantized y s) s) ≤ dequantized_limit
  dequantized_small y k l =
      let back = dequantized (quantized y s) s in
      omega (arith, distance y, rw (-ℤ-+ℤ_cancel back y) at (nat_abs-add (back -ℤ y) y))

  -- a dequantized coefficient is quantized to what it came from
  pub quantized_again : (q : ℤ) → quantized (dequantized q s) s ≡ q
  quantized_again q =
      let e : nat_abs (dequantized q s -ℤ dequantized q s) ≡ 0 = ap nat_abs (+ℤ_invr (dequantized q s)) in
      sym (only-quantized (record { nearest = record { within_half = omega arith }; at_half = λ z. absurd (omega arith) }))

  -- a coefficient and its negative are quantized to opposite values
  pub quantized_opposite : (y : ℤ) → quantized (neg_ℤ y) s ≡ neg_ℤ (quantized y s)
  quantized_opposite = half_away_mirrored positive
