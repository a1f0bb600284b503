-- What the halves of a step over whole numbers are made of.
use Rattle.integers.specs.Kit.{List, ℕ, ℤ, pos}
use Rattle.ring.specs.Element.{add, cosine, mul}
use Rattle.ring.specs.Maps.{part}

-- the whole number u_0 of element n, times c_m
abbrev pub term : (ℕ → List ℤ) → ℕ → ℕ → List ℤ
term r n m = mul (part (r n) 0) (cosine (pos m))

-- the sum of four such products
abbrev pub cosine_sum : (ℕ → List ℤ) → ℕ → ℕ → ℕ → ℕ → List ℤ
cosine_sum r i j k l = add (add (add (term r 0 i) (term r 1 j)) (term r 2 k)) (term r 3 l)
