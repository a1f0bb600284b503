-- The rounding job of d dimensions (01, "Rounding at a width" and "Why a set or sheet is turned back"), for any buffers and any b.
use Rattle.std.specs.Prelude.{◌∷◌}
use Rattle.integers.specs.Kit.{List, [], ℕ, ℤ, length}
use Rattle.limits.specs.Limits.{places_in, components_in, sample_limit, magnitudes_limit_in}
use Rattle.answers.specs.Answer.{Cause, sized, unless, lowest, accept}
use Rattle.answers.specs.Job.{Job}
use Rattle.element_sets.specs.Sets.{above_limit}
use Rattle.coefficients.specs.Tables.{width}
use Rattle.coefficients.specs.Coefficients.{coefficients_of}

-- causes 1, 3 and 4, in this order, for a buffer of n coefficients
abbrev pub round_causes : ℕ → List ℤ → ℕ → ℕ → List Cause
round_causes d elements b n =
    sized (length elements) (components_in d)
    ∷ sized n (places_in d)
    ∷ unless (width b) 3
    ∷ lowest (places_in d) (above_limit (magnitudes_limit_in sample_limit d) elements) 4
    ∷ []

-- it leaves the coefficients of all elements
abbrev pub round_job : ℕ → List ℤ → ℕ → List ℤ → Job (List ℤ)
round_job d elements b coefficients =
    record { causes = round_causes d elements b (length coefficients); end = accept; result = coefficients_of d b elements; was = coefficients }
