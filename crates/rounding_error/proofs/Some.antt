-- There are fractions below and above each cosine, so that the bounds of a value are not vacuous.
use Rattle.std.specs.Prelude.{◌≡◌, ◌&&◌, ◌-◌, ◌≤◌}
use Rattle.integers.specs.Kit.{Bool, List, ℕ, suc, T, ℤ, pos, negsuc}
use native.Mathlib.Nat.{not-suc-le-zero}
use native.Mathlib.Omega.{arith}
use lib.Dec.{ltb→lt}
use lib.Signed.{lt_z}
use mir.Facts.{and_yes}
use Rattle.integers.specs.Test.{every}
use Rattle.integers.proofs.Tests.{every-at}
use Rattle.ring.specs.Element.{component}
use Rattle.rounding_error.specs.Fraction.{Fraction, whole, quarter}
use Rattle.rounding_error.specs.Root.{root, below, above}
use Rattle.rounding_error.specs.Value.{Low, High, by_sign}

-- each c_k lies between 1/4 and 2
is_between : ℕ → Bool
is_between k = below (root (suc k)) quarter && above (root (suc k)) (whole (pos 2))

between_test : T (every 7 is_between)
unfolding is_between root
between_test = tt

-- "All c_1 to c_7 are above 0", since 1/4 lies below each, and they are below 2
pub between : (k : ℕ) → 1 ≤ k → k ≤ 7 → T (below (root k) quarter) × T (above (root k) (whole (pos 2)))
unfolding is_between
between k l h =
    let e : suc (k - 1) ≡ k = omega arith in
    let t = every-at 7 is_between between_test (k - 1) (omega arith) in
    rw e at (and_yes (below (root (suc (k - 1))) quarter) (above (root (suc (k - 1))) (whole (pos 2))) t)

module _ (p q : Fraction) (P : Fraction → Type 0) where
  when_positive : P p → (z : ℤ) → T (lt_z (pos 0) z) → P (by_sign p q z)
  when_positive h (pos n) t = h
  when_positive h (negsuc n) t = absurd t

  when_negative : P q → (z : ℤ) → T (lt_z z (pos 0)) → P (by_sign p q z)
  when_negative h (pos n) t = absurd (not-suc-le-zero (ltb→lt n 0 t))
  when_negative h (negsuc n) t = h

pub some_low : (u : List ℤ) → Low u (λ k. by_sign quarter (whole (pos 2)) (component u k))
some_low u = record {
  at_positive = λ k l h. when_positive quarter (whole (pos 2)) (λ x. T (below (root k) x)) (between k l h).0 (component u k);
  at_negative = λ k l h. when_negative quarter (whole (pos 2)) (λ x. T (above (root k) x)) (between k l h).1 (component u k);
}

pub some_high : (u : List ℤ) → High u (λ k. by_sign (whole (pos 2)) quarter (component u k))
some_high u = record {
  at_positive = λ k l h. when_positive (whole (pos 2)) quarter (λ x. T (above (root k) x)) (between k l h).1 (component u k);
  at_negative = λ k l h. when_negative (whole (pos 2)) quarter (λ x. T (below (root k) x)) (between k l h).0 (component u k);
}
