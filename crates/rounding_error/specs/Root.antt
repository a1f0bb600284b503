-- The cosines c_1 to c_7 as square roots, and where a fraction lies against them (01, "Where a fraction lies against a cosine"). `roots` ties them to the
-- ring's c_1 to c_7.
use Rattle.std.specs.Prelude.{◌≡◌, ◌||◌, ◌∷◌, ◌-◌, ◌*ℤ◌}
use Rattle.integers.specs.Kit.{Bool, not, List, [], ℕ, T, ℤ, pos, get_or}
use Rattle.ring.specs.Element.{add, subtract, integer, cosine, mul}
use Rattle.rounding_error.specs.Fraction.{Fraction, whole, square, minus, at_most, less}

-- √2, √(2 + r) and √(2 - r)
pub data Root : Type 0 where
  root_2 : Root
  root_2_plus : Root → Root
  root_2_minus : Root → Root

abbrev c4 : Root
c4 = root_2

abbrev c2 : Root
c2 = root_2_plus c4

abbrev c6 : Root
c6 = root_2_minus c4

-- c_k, for k from 1 to 7; no other k is meant
unfoldable pub root : ℕ → Root
root k = get_or (root_2_plus c2 ∷ c2 ∷ root_2_plus c6 ∷ c4 ∷ root_2_minus c6 ∷ c6 ∷ root_2_minus c2 ∷ []) (k - 1) c4

-- c_k² in the ring
abbrev pub squared : ℕ → List ℤ
squared k = mul (cosine (pos k)) (cosine (pos k))

-- c_k = √(2 + c_j), and c_k = √(2 - c_j), both as a root and in the ring
abbrev pub PlusRoot : ℕ → ℕ → Type 0
PlusRoot k j = (root k ≡ root_2_plus (root j)) × (squared k ≡ add (integer (pos 2)) (cosine (pos j)))

abbrev pub MinusRoot : ℕ → ℕ → Type 0
MinusRoot k j = (root k ≡ root_2_minus (root j)) × (squared k ≡ subtract (integer (pos 2)) (cosine (pos j)))

-- the fraction p lies below the root: each p at or below 0 does, and a p above 0 does when
-- p² < 2 for √2, p² - 2 lies below r for √(2 + r), and 2 - p² lies above r for √(2 - r)
abbrev pub below : Root → Fraction → Bool
below root_2 p = at_most p (whole (pos 0)) || less (square p) (whole (pos 2))
below (root_2_plus r) p = at_most p (whole (pos 0)) || below r (minus (square p) (whole (pos 2)))
below (root_2_minus r) p = at_most p (whole (pos 0)) || not (below r (minus (whole (pos 2)) (square p)))

-- "Otherwise it lies above"
abbrev pub above : Root → Fraction → Bool
above r p = not (below r p)

-- p is the root itself, which never occurs
abbrev pub Equal : Root → Fraction → Type 0
Equal root_2 p = T (less (whole (pos 0)) p) × ((square p).upper ≡ pos 2 *ℤ pos (square p).lower)
Equal (root_2_plus r) p = T (less (whole (pos 0)) p) × Equal r (minus (square p) (whole (pos 2)))
Equal (root_2_minus r) p = T (less (whole (pos 0)) p) × Equal r (minus (whole (pos 2)) (square p))
