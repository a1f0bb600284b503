-- The order of floats is that of the numbers that they are made of.
use Rattle.std.specs.Prelude.{◌≡◌, ◌||◌, ◌+◌, ◌*◌, ◌^◌, ◌≤◌, ◌<◌}
use Rattle.integers.specs.Kit.{refl, sym, ap, ap₂, ◌∙◌, Bool, true, false, ℕ, suc, T, ltb, eqb, ℤ, pos, negsuc, nat_abs}
use mathlib.Core.Bool.{beq}
use native.Mathlib.Nat.{mul_assoc, mul_comm, mul_left_comm, mul-pos, zero-mul, add-mul, mul-lt-mul_of_pos_right, mul-le-mul_right}
use native.Mathlib.Decide.{dec_lt}
use native.Mathlib.Omega.{arith}
use lib.Dec.{eqb_refl, leb-suc-suc}
use lib.Ieee.{Float, nan, inf, fin, binary32, up, down, below, level, lt, eq, le, low}
use lib.Ieee.Exact.{HasValue}
use lib.Ieee.Fits.{down_pos}
use lib.Ieee.Scale.{finite}
use lib.Pow.{pow_pos}
use lib.Signed.{lt_z}
use mir.Facts.{yes_and}
use borrow.Author.Tests.{lt-ltb, le-ltb, ltb-false}
use Rattle.floats.specs.Fraction.{negative, fraction, exact_limit}
use Rattle.floats.proofs.Fractions.{exact}

-- a comparison of numbers, both of them times c
scaled : (a b c : ℕ) → 0 < c → ltb (a * c) (b * c) ≡ ltb a b
scaled a b c h = go (dec_lt a b)
  where
    go : Dec (a < b) → ltb (a * c) (b * c) ≡ ltb a b
    go (yes l) = rw (lt-ltb a b l, lt-ltb (a * c) (b * c) (mul-lt-mul_of_pos_right l h))
    go (no l) = let m : b ≤ a = omega arith in rw (le-ltb a b m, le-ltb (a * c) (b * c) (mul-le-mul_right c m))

-- x / d and y / e are a / c and b / c
module _ (x y d e a b c : ℕ) (D : 0 < d) (E : 0 < e) (C : 0 < c) (p : x * c ≡ a * d) (q : y * c ≡ b * e) where
  left : x * e * c ≡ a * (d * e)
  left = simp (mul_assoc, mul_comm, mul_left_comm) (simp (mul_assoc, mul_comm) at (ap (λ z. z * e) p))

  right : y * d * c ≡ b * (d * e)
  right = simp (mul_assoc, mul_comm, mul_left_comm) (simp (mul_assoc, mul_comm, mul_left_comm) at (ap (λ z. z * d) q))

  compared : (s t : Bool) → below s (x * e) t (y * d) ≡ below s a t b
  compared false false =
      sym (scaled (x * e) (y * d) c C) ∙ ap₂ ltb left right ∙ scaled a b (d * e) (mul-pos D E)
  compared false true = refl
  compared true false =
      sym (scaled 0 (x * e + y * d) c C)
      ∙ ap₂ ltb (zero-mul c ∙ sym (zero-mul (d * e))) (add-mul (x * e) (y * d) c ∙ ap₂ ◌+◌ left right ∙ sym (add-mul a b (d * e)))
      ∙ scaled 0 (a + b) (d * e) (mul-pos D E)
  compared true true =
      sym (scaled (y * d) (x * e) c C) ∙ ap₂ ltb right left ∙ scaled b a (d * e) (mul-pos D E)

-- two floats over one denominator
by_values : (x y : Float) (s t : Bool) (a b c : ℕ) → 0 < c → HasValue x s a c → HasValue y t b c → lt x y ≡ below s a t b
unfolding lt
by_values nan y s t a b c C v w = absurd v
by_values (inf r) y s t a b c C v w = absurd v
by_values (fin r m e) nan s t a b c C v w = absurd w
by_values (fin r m e) (inf r2) s t a b c C v w = absurd w
by_values (fin r m e) (fin r2 n d) s t a b c C (p, v) (q, w) =
    ap₂ (λ r r2. below r (m * up e * down d) r2 (n * up d * down e)) p q
    ∙ compared (m * up e) (n * up d) (down e) (down d) a b c (down_pos e) (down_pos d) C v w s t

signed : (y z : ℤ) → below (negative y) (nat_abs y) (negative z) (nat_abs z) ≡ lt_z y z
signed (pos n) (pos m) = refl
signed (pos n) (negsuc m) = refl
signed (negsuc n) (pos m) = lt-ltb 0 (suc n + m) (omega arith)
signed (negsuc n) (negsuc m) = leb-suc-suc (suc m) n

-- over 2^k, as in `exact`
pub in_order : (k : ℕ) (y z : ℤ) → k ≤ low binary32 → nat_abs y < exact_limit → nat_abs z < exact_limit → lt (fraction (2 ^ k) y) (fraction (2 ^ k) z) ≡ lt_z y z
in_order k y z h l m =
    by_values (fraction (2 ^ k) y) (fraction (2 ^ k) z) (negative y) (negative z) (nat_abs y) (nat_abs z) (2 ^ k) (pow_pos k)
    (exact k y h l) (exact k z h m)
    ∙ signed y z

-- of two finite floats, where y is not below x, x is at most y

or_else : (t u : Bool) → (t ≡ false → T u) → T (t || u)
or_else true u h = tt
or_else false u h = h refl

equal : (s : Bool) (a b : ℕ) → a ≡ b → T (level s a s b)
equal true a b e = rw e (yes_and (eqb b b) true (eqb_refl b) tt)
equal false a b e = rw e (yes_and (eqb b b) true (eqb_refl b) tt)

zeros : (s t : Bool) (a b : ℕ) → a + b ≡ 0 → T (level s a t b)
zeros s t a b h =
    let z : a ≡ 0 = omega arith in
    let e : b ≡ 0 = omega arith in
    rw (z, e) (or_else (beq s t) true (λ f. tt))

at_most : (s t : Bool) (a b : ℕ) → below t b s a ≡ false → T (below s a t b || level s a t b)
at_most false false a b h =
    or_else (ltb a b) (level false a false b) (λ k. let l = ltb-false b a h in let m = ltb-false a b k in equal false a b (omega arith))
at_most false true a b h = let l = ltb-false 0 (b + a) h in zeros false true a b (omega arith)
at_most true false a b h = or_else (ltb 0 (a + b)) (level true a false b) (λ k. let l = ltb-false 0 (a + b) k in zeros true false a b (omega arith))
at_most true true a b h =
    or_else (ltb b a) (level true a true b) (λ k. let l = ltb-false a b h in let m = ltb-false b a k in equal true a b (omega arith))

not_below : (x y : Float) → T (finite x) → T (finite y) → lt y x ≡ false → T (le x y)
unfolding le lt eq
not_below nan y p q h = elim p [ ]
not_below (inf r) y p q h = elim p [ ]
not_below (fin s m e) nan p q h = elim q [ ]
not_below (fin s m e) (inf r) p q h = elim q [ ]
not_below (fin s m e) (fin t n d) p q h = at_most s t (m * up e * down d) (n * up d * down e) h

finite_value : (x : Float) (s : Bool) (a c : ℕ) → HasValue x s a c → T (finite x)
finite_value nan s a c v = v
finite_value (inf t) s a c v = v
finite_value (fin t m e) s a c v = tt

-- so that the float of a number that is not above another is at most the other's
pub in_order_at_most : (k : ℕ) (y z : ℤ) → k ≤ low binary32 → nat_abs y < exact_limit → nat_abs z < exact_limit → lt_z z y ≡ false
    → T (le (fraction (2 ^ k) y) (fraction (2 ^ k) z))
in_order_at_most k y z h l m e =
    let x = fraction (2 ^ k) y in
    let w = fraction (2 ^ k) z in
    not_below x w (finite_value x (negative y) (nat_abs y) (2 ^ k) (exact k y h l)) (finite_value w (negative z) (nat_abs z) (2 ^ k) (exact k z h m))
    (in_order k z y h m l ∙ e)
