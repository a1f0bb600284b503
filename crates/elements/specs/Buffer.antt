-- Elements in a buffer of numbers, in an array of records, and in eight rows of eight (01, "Elements").
use Rattle.std.specs.Prelude.{◌≡◌, ◌+◌, ◌*◌, ◌/◌, ◌%◌, ◌<◌}
use Rattle.integers.specs.Kit.{cond, List, [], ℕ, eqb, ℤ, pos, length, get_or}
use Rattle.integers.specs.Table.{table}
use Rattle.ring.specs.Element.{component}
use Rattle.elements.specs.declared.Element.{Element}

-- element p of a buffer: it "starts at index 8·(8u+v), component 0 first", where p = 8u+v is its number
unfoldable pub element_at : List ℤ → ℕ → List ℤ
element_at l p = table 8 (λ k. get_or l (8 * p + k) (pos 0))

-- a buffer after the element u is stored as its element p
unfoldable pub put : List ℤ → ℕ → List ℤ → List ℤ
put l p u = table (length l) (λ i. cond (eqb (i / 8) p) (component u (i % 8)) (get_or l i (pos 0)))

-- the components of element n of an array
abbrev pub item : List Element → ℕ → List ℤ
item l n = (get_or l n (record { components = [] })).components

-- the first n elements of an array are f 0, f 1, ..., f (n - 1)
pub record Row (n : ℕ) (f : ℕ → List ℤ) (l : List Element) : Type 0 where
  pub at : (i : ℕ) → i < n → item l i ≡ f i

-- row i of eight rows
abbrev pub row : List (List Element) → ℕ → List Element
row l i = get_or l i []

-- the element at (i,j) of eight rows of eight is f i j
pub record Rows (f : ℕ → ℕ → List ℤ) (l : List (List Element)) : Type 0 where
  pub at : (i : ℕ) → i < 8 → Row 8 (f i) (row l i)
