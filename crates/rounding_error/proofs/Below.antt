-- Each fraction lies on one side of each cosine: what lies below is less than what lies above, and no fraction is a cosine.
use Rattle.std.specs.Prelude.{◌≡◌, ◌||◌, ◌+◌, ◌*◌, ◌/◌, ◌%◌, ◌≤◌, ◌<◌}
use Rattle.integers.specs.Kit.{ap, Bool, not, ℕ, zero, suc, T, pos, nat_abs}
use mathlib.Core.Logic.{◌⊎◌, inl, inr}
use native.Mathlib.Nat.{div-add-mod, mod-lt, mul-le-mul, le_refl, lt_of_not-le, zero-lt-suc}
use native.Mathlib.Omega.{arith}
use mir.Facts.{or_yes, or_no, T_not-not}
use Rattle.integers.proofs.Magnitudes.{nat_abs_mul}
use Rattle.rounding_error.specs.Fraction.{Fraction, whole, square, minus, at_most, less}
use Rattle.rounding_error.specs.Root.{Root, root_2, root_2_plus, root_2_minus, below, above, Equal}
use Rattle.rounding_error.proofs.Order.{at_most_no, less_no, less-at_most, at_most-less, less-square, less_shifted, less_turned}

-- what lies below a root is less than what lies above it

-- p lies at or below 0, or passes a test of its square; q is above 0 and fails it; and the tests order the squares
module _ (p q : Fraction) (b c : Bool) (squares : T b → T (not c) → T (less (square p) (square q))) where
  by_test : T (at_most p (whole (pos 0)) || b) → T (not (at_most q (whole (pos 0)) || c)) → T (less p q)
  by_test h k =
      let (positive, fails) = or_no (at_most q (whole (pos 0))) c k in
      go (at_most_no q (whole (pos 0)) positive) fails (or_yes (at_most p (whole (pos 0))) b h)
    where
      go : T (less (whole (pos 0)) q) → T (not c) → T (at_most p (whole (pos 0))) ⊎ T b → T (less p q)
      go l fails (inl h) = at_most-less p (whole (pos 0)) q h l
      go l fails (inr h) = less-square p q l (squares h fails)

abbrev two : Fraction
two = whole (pos 2)

pub below-less-above : (r : Root) (p q : Fraction) → T (below r p) → T (above r q) → T (less p q)
below-less-above root_2 p q h k =
    by_test p q (less (square p) two) (less (square q) two) (λ h k. less-at_most (square p) two (square q) h (less_no (square q) two k)) h k
below-less-above (root_2_plus r) p q h k =
    by_test p q (below r (minus (square p) two)) (below r (minus (square q) two))
    (λ h k. less_shifted (square p) (square q) (pos 2) (below-less-above r (minus (square p) two) (minus (square q) two) h k)) h k
below-less-above (root_2_minus r) p q h k =
    by_test p q (above r (minus two (square p))) (above r (minus two (square q)))
    (λ h k. less_turned (square p) (square q) (pos 2)
    (below-less-above r (minus two (square q)) (minus two (square p)) (T_not-not (below r (minus two (square q))) k) h)) h k

-- no fraction is a root

-- in a² = 2·b² the number a is even, and with a = 2h also b² = 2·h², with an h less than b: so b, at most n, would go down for ever
descent : (n a b : ℕ) → b ≤ n → 0 < b → a * a ≡ 2 * (b * b) → ⊥
descent zero a b l p e = omega arith
descent (suc n) a b l p e = go (a / 2) (a % 2) (mod-lt a (zero-lt-suc 1)) (div-add-mod a 2) (descent n b (a / 2))
  where
    square_of : (h s : ℕ) → 2 * h + s ≡ a → 4 * (h * h) + 4 * (h * s) + s * s ≡ a * a
    square_of h s d = rw (← d) (omega arith)

    smaller : (h : ℕ) → b * b ≡ 2 * (h * h) → h < b
    smaller h f = lt_of_not-le (λ k. omega (arith, mul-le-mul p p, mul-le-mul k k))

    go : (h s : ℕ) → s < 2 → 2 * h + s ≡ a → (h ≤ n → 0 < h → b * b ≡ 2 * (h * h) → ⊥) → ⊥
    go zero zero t d rest = omega (arith, square_of 0 0 d, mul-le-mul p p)
    go (suc h) zero t d rest =
        let f : b * b ≡ 2 * (suc h * suc h) = omega (arith, square_of (suc h) 0 d) in
        rest (omega (arith, smaller (suc h) f)) (omega arith) f
    go h (suc zero) t d rest = omega (arith, square_of h 1 d)
    go h (suc (suc s)) t d rest = omega arith

pub no_root : (a b : ℕ) → 0 < b → a * a ≡ 2 * (b * b) → ⊥
no_root a b = descent b a b (le_refl b)

pub never_equal : (r : Root) (p : Fraction) → Equal r p → ⊥
never_equal root_2 p e = no_root (nat_abs p.upper) p.lower p.positive (rw (nat_abs_mul p.upper p.upper) at (ap nat_abs e.1))
never_equal (root_2_plus r) p e = never_equal r (minus (square p) two) e.1
never_equal (root_2_minus r) p e = never_equal r (minus two (square p)) e.1
