-- The code's own sums and its shifts, read from their bits: each fits, and is what the formula says.
use Rattle.std.specs.Prelude.{◌≡◌, ◌+◌, ◌-◌, ◌*◌, ◌/◌, ◌^◌, ◌≤◌, ◌<◌, ◌+ℤ◌, ◌*ℤ◌}
use Rattle.integers.specs.Kit.{refl, sym, ap, ap₂, ◌∙◌, List, ℕ, suc, lit<, ℤ, pos, negsuc, nat_abs}
use Prim.Native.Nat.{zero-le}
use native.Mathlib.Nat.{lt_of_le_of_lt, add-zero, div-eq_of_lt}
use native.Mathlib.Numerals.{add-one}
use native.Mathlib.Omega.{arith}
use lib.IntN.{+ℤ_idl, +ℤ_idr}
use lib.Pow.{pow_mono, pow_pos}
use lib.Signed.{shr_z}
use mir.Syntax.{w32, w64}
use mir.Val.{SFits, to_z}
use Rattle.integers.proofs.Division.{shr_z_small}
use Rattle.integers.proofs.Magnitudes.{nat_abs-add, small_fits}
use Rattle.integers.proofs.Nearest.{lowered, half_away_shifted}
use Rattle.integers.proofs.Signed.{in32, in64, kept, read_i32, shift_kept}
use Rattle.ring.specs.Element.{component}
use Rattle.rounding_error.specs.Width.{numerator, coefficient}
use Rattle.rounding_error.proofs.Bounds.{double}
use Rattle.coefficients.specs.Preconditions.{largest, partial, Halvings}
use Rattle.coefficients.proofs.Tables.{width_small}
use Rattle.coefficients.proofs.Sizes.{Allowed, partial_none, partial_more, partial_small, term_small, number-less, component_small, numerator_small, coefficient_fits}

-- s + x·y is v, and the product and the sum fit
pub record ProductAdded (s x y v : ℤ) : Type 0 where
  pub product_small : nat_abs (x *ℤ y) ≤ largest
  pub value : s +ℤ x *ℤ y ≡ v
  pub value_small : nat_abs v ≤ largest

module _ {s x y v : ℤ} (S : ProductAdded s x y v) where
  pub step_fits : SFits w64 (x *ℤ y) × SFits w64 (s +ℤ x *ℤ y)
  step_fits = (
    small_fits w64 (x *ℤ y) (lt_of_le_of_lt S.product_small (lit< tt)),
    rw S.value (small_fits w64 v (lt_of_le_of_lt S.value_small (lit< tt))),
  )

  -- the result r of the step, as it is read back
  pub step_kept : {r : ℤ} → r ≡ s +ℤ x *ℤ y → in64 r ≡ v
  step_kept e = rw (e, S.value) (kept w64 v (lt_of_le_of_lt S.value_small (lit< tt)))

-- divided by more than its magnitude a number gives its sign: -1 or 0
lowered-sum : (D : ℕ) (z : ℤ) → nat_abs z < D → z +ℤ shr_z z D ≡ lowered z
lowered-sum D (pos a) h = rw (div-eq_of_lt h) (+ℤ_idr (pos a))
lowered-sum D (negsuc a) h =
    let e : a / D ≡ 0 = div-eq_of_lt (omega arith) in
    rw (e, add-zero)

lowered_small : (z : ℤ) → nat_abs (lowered z) ≤ nat_abs z + 1
lowered_small (pos a) = omega arith
lowered_small (negsuc a) = omega arith

module _ {b : ℕ} {m u : List ℤ} (A : Allowed b m u) where
  read : (k : ℕ) → in32 (component u k) ≡ component u k
  read k = kept w32 (component u k) (lt_of_le_of_lt (component_small A k) (lit< tt))

  power_kept : {p : ℤ} → p ≡ pos (2 ^ b) → in64 p ≡ pos (2 ^ b)
  power_kept {p} e = kept w64 p (rw e (lt_of_le_of_lt (pow_mono (width_small b A.at_width)) (lit< tt))) ∙ e

  -- the power p times u_0
  pub first_step : {p : ℤ} → p ≡ pos (2 ^ b) → ProductAdded (pos 0) (in64 p) (in32 (component u 0)) (partial b m u 0)
  first_step {p} e =
      let f : in64 p *ℤ in32 (component u 0) ≡ partial b m u 0 =
      ap₂ ◌*ℤ◌ (power_kept e) (read 0) ∙ sym (partial_none b m u) in
      record { product_small = rw f (partial_small A 0 zero-le); value = rw f (+ℤ_idl (partial b m u 0)); value_small = partial_small A 0 zero-le }

  -- m_(k+1) times u_(k+1), to the sum whose bits are n
  pub next_step : (k : ℕ) → k < 7 → (n : ℕ) → to_z w64 n ≡ partial b m u k
      → ProductAdded (to_z w64 n) (in64 (component m k)) (in32 (component u (k + 1))) (partial b m u (k + 1))
  next_step k h n e =
      let f : in64 (component m k) *ℤ in32 (component u (k + 1)) ≡ component m k *ℤ component u (suc k) =
      ap₂ ◌*ℤ◌ (kept w64 (component m k) (lt_of_le_of_lt (number-less A k h) (lit< tt))) (read (k + 1) ∙ ap (component u) (add-one k)) in
      record {
        product_small = rw f (term_small A k h);
        value = ap₂ ◌+ℤ◌ e f ∙ sym (partial_more b m u k) ∙ ap (partial b m u) (sym (add-one k));
        value_small = rw (add-one k) (partial_small A (suc k) h);
      }

  -- the coefficient r of a call, as it is stored
  pub coefficient_kept : {h : ℕ} → Halvings h → {r : ℤ} → r ≡ coefficient h b m u → in32 r ≡ coefficient h b m u
  coefficient_kept {h} H e = rw e (read_i32 (coefficient h b m u) (coefficient_fits A H))

  -- the numerator n, less 1 where it is negative, which a division by D tells; twice the quotient; and the coefficient

  module _ {n : ℤ} (e : n ≡ numerator b m u) (D : ℕ) (above : largest < D) where
    abbrev N : ℤ
    N = numerator b m u

    below : nat_abs N < 2 ^ 63
    below = lt_of_le_of_lt (numerator_small A) (lit< tt)

    kept_N : in64 n ≡ N
    kept_N = kept w64 n (rw e below) ∙ e

    abbrev sign : ℤ
    sign = in64 (shr_z (in64 n) D)

    sign_kept : sign ≡ shr_z N D
    sign_kept = shift_kept w64 n D (rw e (small_fits w64 N below)) ∙ ap (λ z. shr_z z D) e

    sum_kept : in64 n +ℤ sign ≡ lowered N
    sum_kept = ap₂ ◌+ℤ◌ kept_N sign_kept ∙ lowered-sum D N (lt_of_le_of_lt (numerator_small A) above)

    lowered_fits : SFits w64 (lowered N)
    lowered_fits =
        let small : nat_abs (lowered N) ≤ largest + 1 = omega (arith, lowered_small N, numerator_small A) in
        small_fits w64 (lowered N) (lt_of_le_of_lt small (lit< tt))

    pub sum_fits : SFits w64 (in64 n +ℤ sign)
    sum_fits = rw sum_kept lowered_fits

    module _ {h : ℕ} (H : Halvings h) where
      abbrev twice : ℤ
      twice = in64 (shr_z (in64 (in64 n +ℤ sign)) (2 ^ (b + h - 1)))

      twice_kept : twice ≡ shr_z (lowered N) (2 ^ (b + h - 1))
      twice_kept = rw sum_kept (shift_kept w64 (lowered N) (2 ^ (b + h - 1)) lowered_fits)

      more_fits : SFits w64 (shr_z (lowered N) (2 ^ (b + h - 1)) +ℤ pos 1)
      more_fits =
          let q = shr_z (lowered N) (2 ^ (b + h - 1)) in
          let small : nat_abs (q +ℤ pos 1) ≤ largest + 2 = omega (arith, nat_abs-add q (pos 1), shr_z_small (lowered N) (2 ^ (b + h - 1)), lowered_small N, numerator_small A) in
          small_fits w64 (q +ℤ pos 1) (lt_of_le_of_lt small (lit< tt))

      pub one_more_fits : SFits w64 (twice +ℤ pos 1)
      one_more_fits = rw twice_kept more_fits

      abbrev rounded : ℤ
      rounded = in64 (shr_z (in64 (twice +ℤ pos 1)) (2 ^ 1))

      rounded_kept : rounded ≡ coefficient h b m u
      unfolding coefficient
      rounded_kept =
          let power : 2 ^ (b + h) ≡ 2 * 2 ^ (b + h - 1) = let k : b + h ≡ b + h - 1 + 1 = omega arith in ap (λ (n : ℕ). 2 ^ n) k ∙ double (b + h - 1) in
          rw twice_kept
          (shift_kept w64 (shr_z (lowered N) (2 ^ (b + h - 1)) +ℤ pos 1) 2 more_fits ∙ sym (half_away_shifted (2 ^ (b + h - 1)) power (pow_pos (b + h - 1)) N))

      pub rounded_fits : SFits w32 rounded
      rounded_fits = rw rounded_kept (coefficient_fits A H)

      pub rounded-read : in32 rounded ≡ coefficient h b m u
      rounded-read = rw rounded_kept (coefficient_kept H refl)
