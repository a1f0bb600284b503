-- What the halves of the transpose are made of.
use Rattle.std.specs.Prelude.{◌+ℤ◌}
use Rattle.integers.specs.Kit.{List, ℕ, ℤ, pos}
use Rattle.ring.specs.Element.{cosine}
use Rattle.ring.specs.Maps.{dot}

-- the component of element n along c_m
abbrev pub term : (ℕ → List ℤ) → ℕ → ℕ → ℤ
term r n m = dot (r n) (cosine (pos m))

-- the sum of four such components
abbrev pub along_sum : (ℕ → List ℤ) → ℕ → ℕ → ℕ → ℕ → ℤ
along_sum r i j k l = ((term r 0 i +ℤ term r 1 j) +ℤ term r 2 k) +ℤ term r 3 l
