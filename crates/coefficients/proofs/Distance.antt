-- The formula's coefficients of an accepted set are as near as demand 3 asks, in d dimensions: the distance's numerator is the limit of the magnitudes,
-- divided without a rest.
use Rattle.std.specs.Prelude.{◌+◌, ◌*◌, ◌^◌, ◌≤◌}
use Rattle.integers.specs.Kit.{List, ℕ, T, ℤ, pos}
use native.Mathlib.Nat.{le_trans}
use Rattle.integers.proofs.Tables.{get_d_table}
use Rattle.limits.specs.Limits.{places_in, sample_limit, magnitudes_limit_in, halvings_in, distance_numerator_in}
use Rattle.rounding_error.proofs.Coefficient.{coefficient_near}
use Rattle.elements.specs.Buffer.{element_at}
use Rattle.element_sets.specs.Sets.{AcceptedSet}
use Rattle.coefficients.specs.Coefficients.{AllNear, coefficient_at, coefficients_of}
use Rattle.coefficients.specs.Tables.{width, table_numbers}
use Rattle.coefficients.proofs.Tables.{tables}

pub all_near : (d : ℕ) (elements : List ℤ) (b : ℕ) → magnitudes_limit_in sample_limit d ≤ 2 ^ (halvings_in d + 1) * distance_numerator_in sample_limit d
    → AcceptedSet (places_in d) (magnitudes_limit_in sample_limit d) elements → T (width b) → AllNear d elements b (coefficients_of d b elements)
all_near d elements b whole S w =
    record {
      near = λ i h. rw (get_d_table (places_in d) (coefficient_at (halvings_in d) b elements) (pos 0) i h)
          (coefficient_near (halvings_in d) b (table_numbers b) (element_at elements i) (distance_numerator_in sample_limit d) (tables b w) (le_trans (S.in_limit i h) whole));
    }
