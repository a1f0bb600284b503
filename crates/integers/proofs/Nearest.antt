-- The whole number nearest to z/D: what nearness alone gives; that the rule for halves leaves one number; that the formula gives it; and how a
-- shift does.
use Rattle.std.specs.Prelude.{◌≡◌, ◌+◌, ◌*◌, ◌-◌, ◌/◌, ◌≤◌, ◌<◌, ◌+ℤ◌, ◌-ℤ◌, ◌*ℤ◌}
use Rattle.integers.specs.Kit.{refl, sym, ap, ap₂, ◌∙◌, ℕ, zero, suc, ℤ, pos, negsuc, neg_ℤ, nat_abs}
use mathlib.Core.Logic.{◌↔◌}
use native.Mathlib.Nat.{le_refl, lt_of_not-le, le_of_suc-le-suc, zero-lt-suc}
use native.Mathlib.Nat.{mul_assoc, mul-pos, mul-le-mul_left, eq_of_mul-eq-mul_left, mul-lt-mul_of_pos_left}
use native.Mathlib.Nat.{mul-div-le, lt-mul-div-succ, add-div_right, div-div-eq-div-mul}
use native.Mathlib.Omega.{arith}
use lib.Dec.{leb→le, ltb→lt}
use lib.IntN.{neg_ℤ-neg_ℤ, -ℤ-+ℤ_cancel, pos-*ℤ-pos}
use lib.Signed.{◌≤ℤ◌, ◌<ℤ◌, shr_z}
use Rattle.integers.specs.Nearest.{Nearest, Rounded, Up, Away, half_up, half_away}
use Rattle.integers.proofs.Integer.{dif, up, down, as_dif, add_parts, dif_same, dif_neg, dif_le, dif_lt, dif_nat_abs, difs, neg_ℤ-≤ℤ, *ℤ_assoc, *ℤ-+ℤ, *ℤ-neg_ℤ, ≤ℤ_antisym}
use Rattle.integers.proofs.Magnitudes.{nat_abs_neg, nat_abs_mul, nat_abs-add}
use Rattle.integers.proofs.Division.{rounded-down}

-- D·q - z by the parts of q and z, so that `omega` reads its size

difference : (z q : ℤ) (D : ℕ) → pos D *ℤ q -ℤ z ≡ dif (D * up q + down z) (D * down q + up z)
difference z q D = ap₂ ◌-ℤ◌ (ap₂ ◌*ℤ◌ (as_dif (pos D)) (as_dif q)) (as_dif z) ∙ simp difs (dif_same _ _ _ _ (omega arith))

pub size_by_parts : (z q : ℤ) (D n : ℕ)
    → (nat_abs (pos D *ℤ q -ℤ z) ≤ n) ↔ ((D * up q + down z ≤ D * down q + up z + n) × (D * down q + up z ≤ D * up q + down z + n))
size_by_parts z q D n = rw (difference z q D) (dif_nat_abs _ _ n)

-- nearness alone

-- where z/D is at most B in magnitude, a nearest number is
pub nearest_small : {z q : ℤ} {D : ℕ} (B : ℕ) → 0 < D → nat_abs z ≤ D * B → Nearest z D q → nat_abs q ≤ B
nearest_small {z} {q} {D} B p h N =
    let e : nat_abs (pos D *ℤ q -ℤ z +ℤ z) ≡ D * nat_abs q = rw (-ℤ-+ℤ_cancel (pos D *ℤ q) z) (nat_abs_mul (pos D) q) in
    let k = nat_abs-add (pos D *ℤ q -ℤ z) z in
    le_of_suc-le-suc (lt_of_not-le (λ l. omega (arith, mul-le-mul_left D l)))

-- a rule for halves leaves one number

-- the rule takes one at most of two neighbouring multiples of D between which z lies
abbrev pub Decides : (ℤ → ℤ → Type 0) → Type 0
Decides rule =
    (z q : ℤ) (D : ℕ) → (pos D *ℤ q) ≤ℤ z → z ≤ℤ (pos D *ℤ (q +ℤ pos 1)) → rule z (pos D *ℤ q) → rule z (pos D *ℤ (q +ℤ pos 1)) → ⊥

module _ {rule : ℤ → ℤ → Type 0} (decides : Decides rule) {z : ℤ} {D : ℕ} (positive : 0 < D) where
  -- if q were above r, it would be r + 1, and z half-way between D·r and D·q
  not_above : {q r : ℤ} → Rounded rule z D q → Rounded rule z D r → q ≤ℤ r
  not_above {q} {r} Q R = rw (as_dif q, as_dif r) ((dif_le _ _ _ _).1 (le_of_suc-le-suc (lt_of_not-le above)))
    where
      above : up r + down q < up q + down r → ⊥
      above l =
          let (a, b) = (size_by_parts z q D _).0 (le_refl _) in
          let (c, d) = (size_by_parts z r D _).0 (le_refl _) in
          let s = mul-le-mul_left D l in
          let t : D * (up q + down r) ≡ D * (up r + down q + 1) = omega arith in
          let u = eq_of_mul-eq-mul_left D positive (up q + down r) (up r + down q + 1) t in
          let e : q ≡ r +ℤ pos 1 = rw (as_dif q, as_dif r, as_dif (pos 1)) (simp difs (dif_same _ _ _ _ (omega arith))) in
          decides z r D (rw (as_dif r, as_dif z, as_dif (pos D)) (simp difs ((dif_le _ _ _ _).1 (omega arith))))
          (rw (as_dif r, as_dif z, as_dif (pos D), as_dif (pos 1)) (simp difs ((dif_le _ _ _ _).1 (omega arith))))
          (R.at_half (omega arith)) (rw e at (Q.at_half (omega arith)))

  pub only : {q r : ℤ} → Rounded rule z D q → Rounded rule z D r → q ≡ r
  only Q R = ≤ℤ_antisym (not_above Q R) (not_above R Q)

at_least : (c : ℕ) (z : ℤ) → pos c ≤ℤ z → c ≤ nat_abs z
at_least c (pos n) h = leb→le c n h.le
at_least c (negsuc n) h = absurd h.le

at_most : (c : ℕ) (z : ℤ) → z ≤ℤ neg_ℤ (pos c) → c ≤ nat_abs z
at_most c z h = rw (nat_abs_neg z) at (at_least c (neg_ℤ z) (rw (neg_ℤ-neg_ℤ (pos c)) at (neg_ℤ-≤ℤ h)))

-- -(n + 1) + 1
next : (n : ℕ) → negsuc n +ℤ pos 1 ≡ neg_ℤ (pos n)
next n = add_parts (negsuc n) (pos 1) ∙ dif_same _ _ 0 n (omega arith) ∙ sym (ap neg_ℤ (as_dif (pos n)) ∙ dif_neg n 0)

-- one of the two lies between z and zero, and so is not larger than z
away_decides : Decides Away
away_decides z (pos n) D low high a b = omega (arith, at_least (D * n) z low)
away_decides z (negsuc n) D low high a b =
    let e : pos D *ℤ (negsuc n +ℤ pos 1) ≡ neg_ℤ (pos (D * n)) = rw (next n) (*ℤ-neg_ℤ (pos D) (pos n)) in
    omega (arith, at_most (D * n) z (rw e at high), rw (e, nat_abs_neg (pos (D * n))) at b)

-- the formulas

-- w is (z + h)/D rounded down, where h is half of D, rounded down
floor_rounded : (z w : ℤ) (D h : ℕ) → 2 * h ≤ D → D < 2 * (h + 1) → (pos D *ℤ w) ≤ℤ (z +ℤ pos h) → (z +ℤ pos h) <ℤ (pos D *ℤ (w +ℤ pos 1))
    → Rounded Up z D w
floor_rounded z w D h s t low high =
    let l = (dif_le _ _ _ _).0 (simp difs at (rw (as_dif z, as_dif w, as_dif (pos D), as_dif (pos h)) at low)) in
    let k = (dif_lt _ _ _ _).0 (simp difs at (rw (as_dif z, as_dif w, as_dif (pos D), as_dif (pos h), as_dif (pos 1)) at high)) in
    let n = (size_by_parts z w D h).1 (omega arith) in
    record {
      nearest = record { within_half = omega arith };
      at_half = λ e. rw (as_dif z, as_dif w, as_dif (pos D))
          (simp difs ((dif_lt _ _ _ _).1 (lt_of_not-le (λ m. omega (arith, (size_by_parts z w D (D - (h + 1))).1 (omega arith))))));
    }

module _ {D : ℕ} (positive : 0 < D) where
  pub half_up-rounded : (z : ℤ) → Rounded Up z D (half_up z D)
  unfolding half_up
  half_up-rounded z =
      let (low, high) = rounded-down (z +ℤ pos (D / 2)) D positive in
      floor_rounded z _ D (D / 2) (mul-div-le D 2) (lt-mul-div-succ D (zero-lt-suc 1)) low high

-- a half away from zero is mirrored with z

mirrored : (d z q : ℤ) → d *ℤ neg_ℤ q -ℤ neg_ℤ z ≡ neg_ℤ (d *ℤ q -ℤ z)
mirrored d z q = rw (as_dif d, as_dif z, as_dif q) (simp difs (dif_same _ _ _ _ (omega arith)))

mirror : {z q : ℤ} {D : ℕ} → Rounded Away z D q → Rounded Away (neg_ℤ z) D (neg_ℤ q)
mirror {z} {q} {D} Q =
    record {
      nearest = record { within_half = rw same Q.nearest.within_half };
      at_half = λ e. rw (nat_abs_neg z, *ℤ-neg_ℤ (pos D) q, nat_abs_neg (pos D *ℤ q)) (Q.at_half (rw same at e));
    }
  where
    same : nat_abs (pos D *ℤ neg_ℤ q -ℤ neg_ℤ z) ≡ nat_abs (pos D *ℤ q -ℤ z)
    same = rw (mirrored (pos D) z q) (nat_abs_neg (pos D *ℤ q -ℤ z))

up_away : (a : ℕ) (w : ℤ) → Up (pos a) w → Away (pos a) w
up_away a (pos b) h = ltb→lt a b h.lt
up_away a (negsuc b) h = absurd h.lt

module _ {D : ℕ} (positive : 0 < D) where
  upwards : (a : ℕ) → Rounded Away (pos a) D (half_up (pos a) D)
  upwards a =
      let R = half_up-rounded positive (pos a) in
      record { nearest = R.nearest; at_half = λ e. up_away a (pos D *ℤ half_up (pos a) D) (R.at_half e) }

  pub half_away-rounded : (z : ℤ) → Rounded Away z D (half_away z D)
  unfolding half_away
  half_away-rounded (pos a) = upwards a
  half_away-rounded (negsuc a) = mirror (upwards (suc a))

  pub only-half_away : {z q : ℤ} → Rounded Away z D q → q ≡ half_away z D
  only-half_away {z} Q = only away_decides positive Q (half_away-rounded z)

  pub half_away_mirrored : (z : ℤ) → half_away (neg_ℤ z) D ≡ neg_ℤ (half_away z D)
  half_away_mirrored z = sym (only-half_away (mirror (half_away-rounded z)))

-- z and D, both as many times as large: the number stays
module _ {c D : ℕ} (some : 0 < c) (positive : 0 < D) where
  scaled_difference : (z q : ℤ) → nat_abs (pos (c * D) *ℤ q -ℤ pos c *ℤ z) ≡ c * nat_abs (pos D *ℤ q -ℤ z)
  scaled_difference z q =
      let e : pos (c * D) *ℤ q ≡ pos c *ℤ (pos D *ℤ q) = ap (λ t. t *ℤ q) (sym (pos-*ℤ-pos c D)) ∙ *ℤ_assoc (pos c) (pos D) q in
      let f : pos (c * D) *ℤ q -ℤ pos c *ℤ z ≡ pos c *ℤ (pos D *ℤ q -ℤ z) =
      ap₂ ◌+ℤ◌ e (sym (*ℤ-neg_ℤ (pos c) z)) ∙ sym (*ℤ-+ℤ (pos c) (pos D *ℤ q) (neg_ℤ z)) in
      ap nat_abs f ∙ nat_abs_mul (pos c) (pos D *ℤ q -ℤ z)

  scaled_away : (z q : ℤ) → Away z (pos D *ℤ q) → Away (pos c *ℤ z) (pos (c * D) *ℤ q)
  scaled_away z q h =
      rw (nat_abs_mul (pos c) z, nat_abs_mul (pos (c * D)) q, mul_assoc c D (nat_abs q)) (mul-lt-mul_of_pos_left (rw (nat_abs_mul (pos D) q) at h) some)

  pub half_away_scaled : (z : ℤ) → half_away (pos c *ℤ z) (c * D) ≡ half_away z D
  half_away_scaled z =
      let q = half_away z D in
      let R = half_away-rounded positive z in
      let n = nat_abs (pos D *ℤ q -ℤ z) in
      sym (only-half_away (mul-pos some positive) (record {
        nearest = record { within_half = rw (scaled_difference z q) (omega (arith, mul-le-mul_left c R.nearest.within_half)) };
        at_half = λ e. scaled_away z q (R.at_half (eq_of_mul-eq-mul_left c some (2 * n) D (omega (arith, rw (scaled_difference z q) at e))));
      }))

-- for D = 2·h, by shifts: z/h rounded down, plus 1, divided by 2 and rounded down; from a negative z first 1 is taken

-- z, less 1 where it is negative, so that a half of a negative z goes down
abbrev pub lowered : ℤ → ℤ
lowered (pos a) = pos a
lowered (negsuc a) = negsuc (suc a)

halved : (q : ℕ) → shr_z (negsuc q +ℤ pos 1) 2 ≡ neg_ℤ (pos ((q + 1) / 2))
halved zero = refl
halved (suc r) =
    let e : (suc r + 1) / 2 ≡ suc (r / 2) = omega arith in
    rw (next (suc r), e)

module _ {D : ℕ} (h : ℕ) (e : D ≡ 2 * h) (p : 0 < h) where
  quotient : (a : ℕ) → (a + D / 2) / D ≡ (a / h + 1) / 2
  quotient a =
      let half : D / 2 ≡ h = omega arith in
      let divisor : D ≡ h * 2 = omega arith in
      rw half (ap (λ (n : ℕ). (a + h) / n) divisor ∙ sym (div-div-eq-div-mul (a + h) h 2) ∙ ap (λ (n : ℕ). n / 2) (add-div_right a p))

  pub half_away_shifted : (z : ℤ) → half_away z D ≡ shr_z (shr_z (lowered z) h +ℤ pos 1) 2
  unfolding half_away half_up
  half_away_shifted (pos a) = ap pos (quotient a)
  half_away_shifted (negsuc a) = ap (λ n. neg_ℤ (pos n)) (quotient (suc a)) ∙ sym (halved (suc a / h))
