-- Room for the sums of a step: bounds on the elements of a row.
use Rattle.std.specs.Prelude.{◌≡◌, ◌<◌}
use Rattle.integers.specs.Kit.{List, ℕ, ℤ, length}
use Rattle.elements.specs.declared.Element.{Element}
use Rattle.elements.specs.Bound.{Within}
use Rattle.elements.specs.Buffer.{item}

-- an element of eight components, none of which is above B in magnitude
pub record Small (B : ℕ) (a : List ℤ) : Type 0 where
  pub eight : length a ≡ 8
  pub within : Within B a

-- the first m elements of a row are so
pub record Room (m B : ℕ) (row : List Element) : Type 0 where
  pub small : (i : ℕ) → i < m → Small B (item row i)
