-- Blocks of d dimensions in a buffer, and their exact elements (01, "Elements").
use Rattle.std.specs.Prelude.{◌≡◌, ◌+◌, ◌*◌, ◌/◌, ◌%◌, ◌<◌, ◌+ℤ◌}
use Rattle.integers.specs.Kit.{false, List, ℕ, ℤ, pos, get_or}
use Rattle.integers.specs.Range.{outside_at}
use Rattle.integers.specs.Sum.{sum}
use Rattle.integers.specs.Table.{table}
use Rattle.limits.specs.Limits.{places, places_in, components_in, lowest_sample, highest_sample}
use Rattle.ring.specs.Element.{component, integer}
use Rattle.dct.specs.Transform.{factor, element_by, step}

-- sample q of a buffer; sample (i,j) of a block of two dimensions has the index 8i+j
abbrev pub sample : List ℤ → ℕ → ℤ
sample x q = get_or x q (pos 0)

-- the sum of the samples of a block of two dimensions
abbrev pub block_sum : List ℤ → ℤ
block_sum x = sum (pos 0) ◌+ℤ◌ places (sample x)

-- every sample of a block is in range
pub record AllInRange (d : ℕ) (x : List ℤ) : Type 0 where
  pub at : (i : ℕ) → i < places_in d → outside_at lowest_sample highest_sample x i ≡ false

-- the components of a block's exact elements by a family f of factors, element after element, component 0 first
unfoldable pub elements_by : (ℕ → ℕ → List ℤ) → ℕ → List ℤ → List ℤ
elements_by f d x = table (components_in d) (λ i. component (element_by f d (sample x) (i / 8)) (i % 8))

-- by t: a block's exact elements
abbrev pub elements_of : ℕ → List ℤ → List ℤ
elements_of = elements_by factor

-- what the 8-point step makes of column j of a block of two dimensions, for each frequency
abbrev pub frequencies : List ℤ → ℕ → ℕ → List ℤ
frequencies x j = step (λ i. integer (sample x (8 * i + j)))
