-- An element's value against fractions (01, "Where a fraction lies against a cosine", second paragraph).
use Rattle.std.specs.Prelude.{◌^◌, ◌≤◌}
use Rattle.integers.specs.Kit.{List, ℕ, suc, T, ℤ, pos, negsuc}
use Rattle.std.specs.Int.Signed.{lt_z}
use Rattle.integers.specs.Sum.{sum}
use Rattle.ring.specs.Element.{component}
use Rattle.rounding_error.specs.Fraction.{Fraction, whole, plus, minus, times, at_most}
use Rattle.rounding_error.specs.Root.{root, below, above}

-- the sum made by putting the fraction q k for each c_k: u_0 + u_1·q_1 + ... + u_7·q_7
unfoldable pub with_fractions : List ℤ → (ℕ → Fraction) → Fraction
with_fractions u q = plus (whole (component u 0)) (sum (whole (pos 0)) plus 7 (λ k. times (component u (suc k)) (q (suc k))))

-- fractions whose sum does not lie above the value of u: each q k lies below c_k where u_k is positive, and above it where u_k is negative
pub record Low (u : List ℤ) (q : ℕ → Fraction) : Type 0 where
  pub at_positive : (k : ℕ) → 1 ≤ k → k ≤ 7 → T (lt_z (pos 0) (component u k)) → T (below (root k) (q k))
  pub at_negative : (k : ℕ) → 1 ≤ k → k ≤ 7 → T (lt_z (component u k) (pos 0)) → T (above (root k) (q k))

-- the mirror, fractions whose sum does not lie below it: each q k lies above c_k where u_k is positive, and below it where u_k is negative
pub record High (u : List ℤ) (q : ℕ → Fraction) : Type 0 where
  pub at_positive : (k : ℕ) → 1 ≤ k → k ≤ 7 → T (lt_z (pos 0) (component u k)) → T (above (root k) (q k))
  pub at_negative : (k : ℕ) → 1 ≤ k → k ≤ 7 → T (lt_z (component u k) (pos 0)) → T (below (root k) (q k))

-- p or q, by the sign of a component, with which sums of both kinds are made (`some_low`, `some_high`)
abbrev pub by_sign : Fraction → Fraction → ℤ → Fraction
by_sign p q (pos n) = p
by_sign p q (negsuc n) = q

-- the value of u is at most r: each sum of the first kind is at most r, since the value is the least upper bound of these sums
abbrev pub ValueAtMost : List ℤ → Fraction → Type 0
ValueAtMost u r = (q : ℕ → Fraction) → Low u q → T (at_most (with_fractions u q) r)

-- the value of u is at least r: each sum of the second kind is at least r
abbrev pub ValueAtLeast : List ℤ → Fraction → Type 0
ValueAtLeast u r = (q : ℕ → Fraction) → High u q → T (at_most r (with_fractions u q))

-- the distance between y and the 2^s-th part of the value of u is at most d; with s = 1, the distance between a coefficient y in eighths and
-- half of an element's value: "at most d when the value is at most 2y + 2d and at least 2y - 2d"
pub record Near (s : ℕ) (y : ℤ) (u : List ℤ) (d : Fraction) : Type 0 where
  pub value_at_most : ValueAtMost u (plus (times (pos (2 ^ s)) (whole y)) (times (pos (2 ^ s)) d))
  pub value_at_least : ValueAtLeast u (minus (times (pos (2 ^ s)) (whole y)) (times (pos (2 ^ s)) d))
