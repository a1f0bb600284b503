-- The order of fractions, as cross-multiplication makes it.
use Rattle.std.specs.Prelude.{◌≡◌, ◌*◌, ◌+ℤ◌, ◌*ℤ◌}
use Rattle.integers.specs.Kit.{not, ℕ, T, ℤ, pos, negsuc, neg_ℤ}
use native.Mathlib.Nat.{mul_comm, zero-mul}
use native.Mathlib.Omega.{arith}
use lib.Signed.{◌≤ℤ◌, ◌<ℤ◌, <ℤ-≤ℤ_trans, le_z_yes, lt_z_yes, lt_z_no, clash_ℤ}
use mir.Facts.{not_T, T_not-not}
use Rattle.integers.proofs.Integer.{as_dif, dif_same, difs, *ℤ_pos1, *ℤ-≤ℤ, ≤ℤ-*ℤ, *ℤ-<ℤ, *ℤ-<ℤ_cancel, <ℤ→≤ℤ, +ℤ-<ℤ_cancel, neg_ℤ-<ℤ_cancel, le_z_no, square-<ℤ}
use Rattle.rounding_error.specs.Fraction.{Fraction, whole, square, minus, at_most, less}

-- the tests, as orders of integers

-- p's upper number times q's lower one
abbrev pub cross : Fraction → Fraction → ℤ
cross p q = p.upper *ℤ pos q.lower

pub less_yes : (p q : Fraction) → T (less p q) → cross p q <ℤ cross q p
less_yes p q h = lt_z_yes h

pub yes_less : (p q : Fraction) → cross p q <ℤ cross q p → T (less p q)
yes_less p q h = h.lt

pub at_most_yes : (p q : Fraction) → T (at_most p q) → cross p q ≤ℤ cross q p
at_most_yes p q h = le_z_yes h

pub at_most_no : (p q : Fraction) → T (not (at_most p q)) → T (less q p)
at_most_no p q h = yes_less q p (le_z_no h)

pub less_no : (p q : Fraction) → T (not (less p q)) → T (at_most q p)
less_no p q h = let k : cross q p ≤ℤ cross p q = lt_z_no h in k.le

-- fractions over one number
pub same-lower : (p q : Fraction) → p.lower ≡ q.lower → p.upper ≤ℤ q.upper → T (at_most p q)
same-lower p q e h = let all : cross p q ≤ℤ cross q p = rw e (≤ℤ-*ℤ q.lower h) in all.le

-- transitivity

swap : (a b c : ℤ) → a *ℤ (b *ℤ c) ≡ c *ℤ (b *ℤ a)
swap a b c = rw (as_dif a, as_dif b, as_dif c) (simp difs (dif_same _ _ _ _ (omega arith)))

pub less-at_most : (p q r : Fraction) → T (less p q) → T (at_most q r) → T (less p r)
less-at_most p q r h k =
    let m = p.lower in
    let n = q.lower in
    let l = r.lower in
    let first : (pos n *ℤ cross p r) <ℤ (pos m *ℤ cross q r) =
    rw (swap (pos n) p.upper (pos l), swap (pos m) q.upper (pos l)) (*ℤ-<ℤ r.positive (less_yes p q h)) in
    let second : (pos m *ℤ cross q r) ≤ℤ (pos n *ℤ cross r p) =
    rw (swap (pos n) r.upper (pos m)) (*ℤ-≤ℤ m (at_most_yes q r k)) in
    yes_less p r (*ℤ-<ℤ_cancel n (<ℤ-≤ℤ_trans first second))

-- by contradiction: where p is not less than r, q is less than p
pub at_most-less : (p q r : Fraction) → T (at_most p q) → T (less q r) → T (less p r)
at_most-less p q r h k =
    T_not-not (less p r) (not_T (not (less p r))
    (λ t. clash_ℤ (less_yes q p (less-at_most q r p k (less_no p r t))) (at_most_yes p q h)))

pub at_most_trans : (p q r : Fraction) → T (at_most p q) → T (at_most q r) → T (at_most p r)
at_most_trans p q r h k =
    T_not-not (at_most p r) (not_T (not (at_most p r))
    (λ t. clash_ℤ (less_yes r q (less-at_most r p q (at_most_no p r t) h)) (at_most_yes q r k)))

-- squares

square-cross : (a b : ℤ) → (a *ℤ a) *ℤ (b *ℤ b) ≡ (a *ℤ b) *ℤ (a *ℤ b)
square-cross a b = rw (as_dif a, as_dif b) (simp difs (dif_same _ _ _ _ (omega arith)))

-- the smaller square belongs to the smaller fraction, where the other is positive
pub less-square : (p q : Fraction) → T (less (whole (pos 0)) q) → T (less (square p) (square q)) → T (less p q)
less-square p q h k =
    let first : (cross p q *ℤ cross p q) <ℤ (cross q p *ℤ cross q p) =
    rw (← square-cross p.upper (pos q.lower), ← square-cross q.upper (pos p.lower)) (less_yes (square p) (square q) k) in
    yes_less p q (square-<ℤ positive first)
  where
    upper : pos 0 <ℤ q.upper
    upper = rw (zero-mul q.lower, *ℤ_pos1 q.upper) at (less_yes (whole (pos 0)) q h)

    positive : pos 0 ≤ℤ cross q p
    positive = rw (zero-mul p.lower) at (≤ℤ-*ℤ p.lower (<ℤ→≤ℤ upper))

-- differences from a whole number

shifted : (a z : ℤ) (m n : ℕ) → (a *ℤ pos 1 +ℤ (negsuc 0 *ℤ z) *ℤ pos m) *ℤ pos (n * 1) ≡ a *ℤ pos n +ℤ neg_ℤ (z *ℤ pos (m * n))
shifted a z m n =
    rw (as_dif a, as_dif z, as_dif (pos 1), as_dif (negsuc 0), as_dif (pos m), as_dif (pos n), as_dif (pos (m * n)), as_dif (pos (n * 1)))
    (simp difs (dif_same _ _ _ _ (omega arith)))

-- p - z < q - z
pub less_shifted : (p q : Fraction) (z : ℤ) → T (less (minus p (whole z)) (minus q (whole z))) → T (less p q)
less_shifted p q z h =
    let first =
    rw (shifted p.upper z p.lower q.lower, shifted q.upper z q.lower p.lower, mul_comm q.lower p.lower)
    at (less_yes (minus p (whole z)) (minus q (whole z)) h) in
    yes_less p q (+ℤ-<ℤ_cancel (neg_ℤ (z *ℤ pos (p.lower * q.lower))) first)

turned : (a z : ℤ) (m n : ℕ) → (z *ℤ pos n +ℤ (negsuc 0 *ℤ a) *ℤ pos 1) *ℤ pos (1 * m) ≡ neg_ℤ (a *ℤ pos m) +ℤ z *ℤ pos (m * n)
turned a z m n =
    rw (as_dif a, as_dif z, as_dif (pos 1), as_dif (negsuc 0), as_dif (pos m), as_dif (pos n), as_dif (pos (m * n)), as_dif (pos (1 * m)))
    (simp difs (dif_same _ _ _ _ (omega arith)))

-- z - q < z - p
pub less_turned : (p q : Fraction) (z : ℤ) → T (less (minus (whole z) q) (minus (whole z) p)) → T (less p q)
less_turned p q z h =
    let first =
    rw (turned p.upper z q.lower p.lower, turned q.upper z p.lower q.lower, mul_comm q.lower p.lower)
    at (less_yes (minus (whole z) q) (minus (whole z) p) h) in
    yes_less p q (neg_ℤ-<ℤ_cancel (+ℤ-<ℤ_cancel (z *ℤ pos (p.lower * q.lower)) first))
