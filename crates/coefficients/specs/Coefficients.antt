-- The coefficients of a set of elements, and how near they are to their parts of the values (01, "Rounding at a width"), for any number of dimensions.
use Rattle.std.specs.Prelude.{◌<◌}
use Rattle.integers.specs.Kit.{List, ℕ, ℤ, pos, get_or}
use Rattle.integers.specs.Table.{table}
use Rattle.limits.specs.Limits.{places_in, sample_limit, halvings_in, distance_numerator_in}
use Rattle.rounding_error.specs.Value.{Near}
use Rattle.rounding_error.specs.Width.{coefficient, distance}
use Rattle.elements.specs.Buffer.{element_at}
use Rattle.coefficients.specs.Tables.{table_numbers}

-- the coefficient of element p at b, for the 2^h-th part of its value: "the coefficient at index 8u+v is made from the element at (u,v)"
abbrev pub coefficient_at : ℕ → ℕ → List ℤ → ℕ → ℤ
coefficient_at h b elements p = coefficient h b (table_numbers b) (element_at elements p)

-- those of a set of d dimensions
abbrev pub coefficients_of : ℕ → ℕ → List ℤ → List ℤ
coefficients_of d b elements = table (places_in d) (coefficient_at (halvings_in d) b elements)

-- each of the coefficients lies within the promised distance of its part of the element's value: for d = 2, of half of it
pub record AllNear (d : ℕ) (elements : List ℤ) (b : ℕ) (coefficients : List ℤ) : Type 0 where
  pub near : (p : ℕ) → p < places_in d
      → Near (halvings_in d) (get_or coefficients p (pos 0)) (element_at elements p) (distance (distance_numerator_in sample_limit d) b)
