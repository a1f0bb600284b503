-- The three widths and their table numbers (01, "Rounding at a width").
use Rattle.std.specs.Prelude.{◌||◌, ◌∷◌}
use Rattle.integers.specs.Kit.{Bool, cond, List, [], ℕ, eqb, ℤ, pos, nat_abs}
use Rattle.ring.specs.Element.{component}

-- "b is 11, 20 or 26"
abbrev pub width : ℕ → Bool
width b = eqb b 11 || (eqb b 20 || eqb b 26)

-- m_1 to m_7 at each width. `tables` shows that each obeys 01's rule, and `only-table-number` of `rounding_error` that no other number does.
unfoldable pub table_numbers : ℕ → List ℤ
table_numbers b =
    cond (eqb b 11) (pos 4017 ∷ pos 3784 ∷ pos 3406 ∷ pos 2896 ∷ pos 2276 ∷ pos 1567 ∷ pos 799 ∷ [])
    (cond (eqb b 20) (pos 2056856 ∷ pos 1937516 ∷ pos 1743718 ∷ pos 1482910 ∷ pos 1165115 ∷ pos 802545 ∷ pos 409134 ∷ [])
    (cond (eqb b 26) (pos 131638772 ∷ pos 124001012 ∷ pos 111597962 ∷ pos 94906266 ∷ pos 74567374 ∷ pos 51362901 ∷ pos 26184580 ∷ [])
    []))

-- m_1, which is the largest of them (`at_most-first`)
abbrev pub first_number : ℕ → ℕ
first_number b = nat_abs (component (table_numbers b) 0)
