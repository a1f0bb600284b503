-- The rows between the two passes of forward, and the rows of elements that they leave in a buffer.
use Rattle.std.specs.Prelude.{◌≡◌, ◌/◌, ◌%◌, ◌<◌}
use Rattle.integers.specs.Kit.{List, ℕ, T, ℤ, pos, length, get_or}
use Rattle.integers.specs.Table.{PartStored}
use Rattle.ring.specs.Element.{component}
use Rattle.dct.specs.Transform.{step, among}
use Rattle.elements.specs.declared.Element.{Element}
use Rattle.elements.specs.Buffer.{item, row, Row, Rows}
use Rattle.blocks.specs.Blocks.{AllInRange, frequencies}

-- row j of l is the step over column j of some block in range
pub record Columns (l : List (List Element)) : Type 0 where
  pub block : List ℤ
  pub range : AllInRange 2 block
  pub steps : Rows (frequencies block) l

-- e is row u of the block's elements: the step over what stands at place u of every column
abbrev pub RowOf : List (List Element) → ℕ → List Element → Type 0
RowOf x u e = Row 8 (step (λ j. item (row x j) u)) e

-- number i of the buffer that holds all rows: component i mod 8 of the element of number i div 8
abbrev pub number_of : List (List Element) → ℕ → ℤ
number_of x i = component (step (λ j. item (row x j) (i / 8 / 8)) (i / 8 % 8)) (i % 8)

-- `left` is the buffer `was` with the elements e stored as those of row u
abbrev pub RowStored : List Element → ℕ → List ℤ → List ℤ → Type 0
RowStored e u was left = PartStored (λ i. i / 64) u (λ i. component (item e (i / 8 % 8)) (i % 8)) was left

-- `left` is the buffer `was` with the rows us of the block's elements stored
pub record RowsStored (x : List (List Element)) (us : List ℕ) (was left : List ℤ) : Type 0 where
  pub size : length left ≡ length was
  pub here : (i : ℕ) → i < length was → T (among us (i / 64)) → get_or left i (pos 0) ≡ number_of x i
  pub others : (i : ℕ) → i < length was → (T (among us (i / 64)) → ⊥) → get_or left i (pos 0) ≡ get_or was i (pos 0)
