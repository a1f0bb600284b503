-- Sums over a range, which 01 writes as "the sum over all". They are the same for numbers and for elements.
use Rattle.integers.specs.Kit.{ℕ, zero, suc}

module _ {A : Type 0} (none : A) (plus : A → A → A) where
  -- f 0 + f 1 + ... + f (n - 1), and `none` where n is 0
  unfoldable pub sum : ℕ → (ℕ → A) → A
  sum zero f = none
  sum (suc n) f = plus (sum n f) (f n)
