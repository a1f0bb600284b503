-- Bounds of the sum that an element makes with fractions, from the rule of the table numbers; from above and from below at once.
use Rattle.std.specs.Prelude.{◌≡◌, ◌+◌, ◌*◌, ◌^◌, ◌<◌, ◌+ℤ◌, ◌-ℤ◌, ◌*ℤ◌}
use Rattle.integers.specs.Kit.{ap₂, ◌∙◌, List, ℕ, zero, suc, T, ℤ, pos, negsuc, neg_ℤ, nat_abs}
use native.Mathlib.Nat.{mul_comm, mul-zero, zero-lt-suc}
use native.Mathlib.Omega.{arith}
use lib.Dec.{lt→ltb}
use lib.IntN.{zero-*ℤ}
use lib.Pow.{pow-add}
use lib.Signed.{◌≤ℤ◌, lt_z, ≤ℤ_refl}
use Rattle.integers.specs.Sum.{sum}
use Rattle.integers.proofs.Integer.{as_dif, dif_same, difs, *ℤ_assoc, +ℤ-*ℤ, +ℤ-≤ℤ, neg_ℤ-≤ℤ, *ℤ-≤ℤ}
use Rattle.ring.specs.Element.{component}
use Rattle.rounding_error.specs.Fraction.{Fraction, whole, plus, times}
use Rattle.rounding_error.specs.Value.{with_fractions}
use Rattle.rounding_error.specs.Width.{numerator}

-- equations of integers: both sides of a bound, for a sum of two fractions, a whole number and a term u·q

plus-left : (x y m n D : ℤ) → (x *ℤ n +ℤ y *ℤ m) *ℤ D ≡ n *ℤ (x *ℤ D) +ℤ m *ℤ (y *ℤ D)
plus-left x y m n D = +ℤ-*ℤ (x *ℤ n) (y *ℤ m) D ∙ ap₂ ◌+ℤ◌ (move x n) (move y m)
  where
    move : (x n : ℤ) → (x *ℤ n) *ℤ D ≡ n *ℤ (x *ℤ D)
    move x n = rw (as_dif x, as_dif n, as_dif D) (simp difs (dif_same _ _ _ _ (omega arith)))

plus_right : (v w m n : ℤ) → (v +ℤ w) *ℤ (m *ℤ n) ≡ n *ℤ (v *ℤ m) +ℤ m *ℤ (w *ℤ n)
plus_right v w m n = rw (as_dif v, as_dif w, as_dif m, as_dif n) (simp difs (dif_same _ _ _ _ (omega arith)))

plus_both : (e g h i j : ℤ) → pos 2 *ℤ (g +ℤ i) +ℤ e *ℤ (h +ℤ j) ≡ (pos 2 *ℤ g +ℤ e *ℤ h) +ℤ (pos 2 *ℤ i +ℤ e *ℤ j)
plus_both e g h i j = rw (as_dif e, as_dif g, as_dif h, as_dif i, as_dif j, as_dif (pos 2)) (simp difs (dif_same _ _ _ _ (omega arith)))

whole_both : (e z β : ℤ) → z *ℤ (pos 2 *ℤ β) ≡ (pos 2 *ℤ (β *ℤ z) +ℤ e *ℤ pos 0) *ℤ pos 1
whole_both e z β = rw (as_dif e, as_dif z, as_dif β, as_dif (pos 2), as_dif (pos 0), as_dif (pos 1)) (simp difs (dif_same _ _ _ _ (omega arith)))

term_positive : (e m w l : ℤ) → (pos 2 *ℤ (m *ℤ w) +ℤ e *ℤ w) *ℤ l ≡ w *ℤ ((pos 2 *ℤ m +ℤ e) *ℤ l)
term_positive e m w l = rw (as_dif e, as_dif m, as_dif w, as_dif l, as_dif (pos 2)) (simp difs (dif_same _ _ _ _ (omega arith)))

term-negative : (e m w l : ℤ) → (pos 2 *ℤ (m *ℤ neg_ℤ w) +ℤ e *ℤ w) *ℤ l ≡ neg_ℤ (w *ℤ ((pos 2 *ℤ m -ℤ e) *ℤ l))
term-negative e m w l = rw (as_dif e, as_dif m, as_dif w, as_dif l, as_dif (pos 2)) (simp difs (dif_same _ _ _ _ (omega arith)))

negative-left : (w y D : ℤ) → (neg_ℤ w *ℤ y) *ℤ D ≡ neg_ℤ (w *ℤ (y *ℤ D))
negative-left w y D = rw (as_dif w, as_dif y, as_dif D) (simp difs (dif_same _ _ _ _ (omega arith)))

-- orders

-- what a bound needs of ≤, and of its mirror: that sums and multiples keep it, and that negatives turn it round
pub record Order (R : ℤ → ℤ → Type 0) : Type 0 where
  pub same : (a : ℤ) → R a a
  pub sums : {a b c d : ℤ} → R a b → R c d → R (a +ℤ c) (b +ℤ d)
  pub multiples : (n : ℕ) {a b : ℤ} → R a b → R (pos n *ℤ a) (pos n *ℤ b)
  pub negatives : {a b : ℤ} → R a b → R (neg_ℤ b) (neg_ℤ a)

pub rising : Order (λ a b. a ≤ℤ b)
rising = record { same = ≤ℤ_refl; sums = +ℤ-≤ℤ; multiples = *ℤ-≤ℤ; negatives = neg_ℤ-≤ℤ }

pub falling : Order (λ a b. b ≤ℤ a)
falling = record { same = ≤ℤ_refl; sums = +ℤ-≤ℤ; multiples = λ n h. *ℤ-≤ℤ n h; negatives = neg_ℤ-≤ℤ }

-- bounds over 2^(b+1)

-- the terms u_k·q_k, m_k·u_k and |u_k|, for k from 1 to 7
abbrev terms : List ℤ → (ℕ → Fraction) → ℕ → Fraction
terms u q k = times (component u (suc k)) (q (suc k))

abbrev products : List ℤ → List ℤ → ℕ → ℤ
products m u k = component m k *ℤ component u (suc k)

abbrev pub parts : List ℤ → ℕ → ℕ
parts u k = nat_abs (component u (suc k))

pub double : (b : ℕ) → 2 ^ (b + 1) ≡ 2 * 2 ^ b
double b = pow-add 2 b 1 ∙ mul_comm (2 ^ b) 2

-- R is ≤ and e is 1, for the bound from above; or R is ≥ and e is -1, for that from below
module _ {R : ℤ → ℤ → Type 0} (O : Order R) (e : ℤ) (b : ℕ) where
  -- p ≤ (2g + h)/2^(b+1), or p ≥ (2g - h)/2^(b+1)
  abbrev pub UpTo : Fraction → ℤ → ℕ → Type 0
  UpTo p g h = R (p.upper *ℤ pos (2 ^ (b + 1))) ((pos 2 *ℤ g +ℤ e *ℤ pos h) *ℤ pos p.lower)

  within_plus : (p q : Fraction) (g i : ℤ) (h j : ℕ) → UpTo p g h → UpTo q i j → UpTo (plus p q) (g +ℤ i) (h + j)
  within_plus p q g i h j s t =
      rw (
        plus-left p.upper q.upper (pos p.lower) (pos q.lower) (pos (2 ^ (b + 1))),
        plus_both e g (pos h) i (pos j),
        plus_right (pos 2 *ℤ g +ℤ e *ℤ pos h) (pos 2 *ℤ i +ℤ e *ℤ pos j) (pos p.lower) (pos q.lower),
      )
      (O.sums (O.multiples q.lower s) (O.multiples p.lower t))

  within_whole : (z : ℤ) → UpTo (whole z) (pos (2 ^ b) *ℤ z) 0
  within_whole z = rw (double b, whole_both e z (pos (2 ^ b))) (O.same _)

  -- q ≤ (2m + 1)/2^(b+1), which a positive factor needs, and q ≥ (2m - 1)/2^(b+1), which a negative one does; mirrored where R is ≥

  abbrev pub Inside : ℤ → Fraction → Type 0
  Inside m q = R (q.upper *ℤ pos (2 ^ (b + 1))) ((pos 2 *ℤ m +ℤ e) *ℤ pos q.lower)

  abbrev pub Outside : ℤ → Fraction → Type 0
  Outside m q = R ((pos 2 *ℤ m -ℤ e) *ℤ pos q.lower) (q.upper *ℤ pos (2 ^ (b + 1)))

  within_term : (u m : ℤ) (q : Fraction) → (T (lt_z (pos 0) u) → Inside m q) → (T (lt_z u (pos 0)) → Outside m q)
      → UpTo (times u q) (m *ℤ u) (nat_abs u)
  within_term (pos n) m q f g =
      rw (*ℤ_assoc (pos n) q.upper (pos (2 ^ (b + 1))), term_positive e m (pos n) (pos q.lower)) (multiple n f)
    where
      multiple : (n : ℕ) → (T (lt_z (pos 0) (pos n)) → Inside m q)
          → R (pos n *ℤ (q.upper *ℤ pos (2 ^ (b + 1)))) (pos n *ℤ ((pos 2 *ℤ m +ℤ e) *ℤ pos q.lower))
      multiple zero f = rw (zero-*ℤ (q.upper *ℤ pos (2 ^ (b + 1))), zero-*ℤ ((pos 2 *ℤ m +ℤ e) *ℤ pos q.lower)) (O.same (pos 0))
      multiple (suc n) f = O.multiples (suc n) (f (lt→ltb 0 (suc n) (zero-lt-suc n)))
  within_term (negsuc n) m q f g =
      rw (negative-left (pos (suc n)) q.upper (pos (2 ^ (b + 1))), term-negative e m (pos (suc n)) (pos q.lower))
      (O.negatives (O.multiples (suc n) (g tt)))

  within_sum : (n : ℕ) (f : ℕ → Fraction) (g : ℕ → ℤ) (h : ℕ → ℕ) → ((k : ℕ) → k < n → UpTo (f k) (g k) (h k))
      → UpTo (sum (whole (pos 0)) plus n f) (sum (pos 0) ◌+ℤ◌ n g) (sum 0 ◌+◌ n h)
  unfolding sum
  within_sum zero f g h t = rw (mul-zero (2 ^ b)) at (within_whole (pos 0))
  within_sum (suc n) f g h t = within_plus (sum (whole (pos 0)) plus n f) (f n) (sum (pos 0) ◌+ℤ◌ n g) (g n) (sum 0 ◌+◌ n h) (h n)
      (within_sum n f g h (λ k l. t k (omega arith))) (t n (omega arith))

  pub within_all : (m u : List ℤ) (q : ℕ → Fraction)
      → ((k : ℕ) → k < 7 → T (lt_z (pos 0) (component u (suc k))) → Inside (component m k) (q (suc k)))
      → ((k : ℕ) → k < 7 → T (lt_z (component u (suc k)) (pos 0)) → Outside (component m k) (q (suc k)))
      → UpTo (with_fractions u q) (numerator b m u) (0 + sum 0 ◌+◌ 7 (parts u))
  unfolding with_fractions numerator
  within_all m u q f g =
      within_plus (whole (component u 0)) (sum (whole (pos 0)) plus 7 (terms u q))
      (pos (2 ^ b) *ℤ component u 0) (sum (pos 0) ◌+ℤ◌ 7 (products m u)) 0 (sum 0 ◌+◌ 7 (parts u)) (within_whole (component u 0))
      (within_sum 7 (terms u q) (products m u) (parts u) (λ k l. within_term (component u (suc k)) (component m k) (q (suc k)) (f k l) (g k l)))
