-- What the passes of the way back make, over rows and then over columns.
use Rattle.std.specs.Prelude.{◌≡◌, ◌+◌, ◌*◌, ◌/◌, ◌≤◌, ◌<◌, ◌+ℤ◌, ◌*ℤ◌}
use Rattle.integers.specs.Kit.{List, ℕ, ℤ, pos, nat_abs, length, get_or}
use Rattle.ring.specs.Element.{component, cosine, mul}
use Rattle.dct.specs.Inverse.{integer_back, known_frequency, known_component}
use Rattle.limits.specs.Limits.{components_size, magnitudes_limit, places}
use Rattle.elements.specs.declared.Element.{Element}
use Rattle.elements.specs.Buffer.{element_at, item, row}
use Rattle.elements.specs.Bound.{bit_limit}
use Rattle.element_rows.specs.Room.{Room}
use Rattle.blocks.specs.Blocks.{elements_of}

-- the passes read the rows 0, 1, 2 and 4 of the elements: this many elements, and their numbers, reach to the end of row 4
abbrev pub read_places : ℕ
read_places = places / 8 * 5

abbrev pub read_size : ℕ
read_size = 8 * read_places

-- 512 numbers, of which none of these is above the limit of an element's magnitudes in magnitude
pub record Limited (e : List ℤ) : Type 0 where
  pub size : length e ≡ components_size
  pub in_limit : (i : ℕ) → i < read_size → nat_abs (get_or e i (pos 0)) ≤ magnitudes_limit

-- half of component 0 of what the transpose makes of c_k times row u of the elements: for a block's, 16 times component k of frequency u of column n
unfoldable pub row_back : List ℤ → ℕ → ℕ → ℕ → ℤ
row_back e u k n = integer_back (λ v. mul (cosine (pos k)) (element_at e (8 * u + v))) n

-- the same for entry k of the list of known components, k from 0 to 7
abbrev pub known_row : List ℤ → ℕ → ℕ → ℤ
known_row e k = row_back e (known_frequency k) (known_component k)

-- of the numbers y by which a column is known, that of frequency 0, and of the frequencies 4, 2 and 1 one each, with its weight; that of frequency 2
-- stands at place p2, that of 1 at p1. For a block's, with the weights of a place, this is 128 times the sample there
abbrev pub four_terms : (ℕ → ℤ) → ℤ → ℕ → ℤ → ℕ → ℤ → ℤ
four_terms y w4 p2 w2 p1 w1 = (((pos 1 *ℤ y 0) +ℤ (w4 *ℤ y 1)) +ℤ (w2 *ℤ y p2)) +ℤ (w1 *ℤ y p1)

-- the whole numbers u_0 of a row
abbrev pub numbers : List Element → ℕ → ℤ
numbers row k = component (item row k) 0

-- no number of eight rows needs more than 27 bits
pub record Numbers (x : List (List Element)) : Type 0 where
  pub rooms : (k : ℕ) → k < 8 → Room 8 (bit_limit 27) (row x k)

-- y is the block that has the elements e, if there is one
pub record Restores (e y : List ℤ) : Type 0 where
  pub restores : (x : List ℤ) → length x ≡ places → elements_of 2 x ≡ e → y ≡ x
