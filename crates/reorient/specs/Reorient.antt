-- The jobs `reorient` and `compose_orientations` (02, request 1), for any numbers and any buffers.
use Rattle.std.specs.Prelude.{◌∷◌}
use Rattle.integers.specs.Kit.{List, [], ℕ, ltb, ℤ, length}
use Rattle.limits.specs.Limits.{places, components_size, magnitudes_limit}
use Rattle.answers.specs.Answer.{Cause, sized, unless, lowest, accept, accept_with}
use Rattle.answers.specs.Job.{Job}
use Rattle.element_sets.specs.Sets.{above_limit}
use Rattle.orientations.specs.Orientation.{orientations, reoriented_elements, composed}

-- causes 1, 9 and 4, in this order, for a buffer of n numbers: "after 1, before 4"
abbrev pub reorient_causes : List ℤ → ℕ → ℕ → List Cause
reorient_causes elements o n =
    sized (length elements) components_size
    ∷ sized n components_size
    ∷ unless (ltb o orientations) 9
    ∷ lowest places (above_limit magnitudes_limit elements) 4
    ∷ []

-- it leaves the reoriented elements
abbrev pub reorient_job : List ℤ → ℕ → List ℤ → Job (List ℤ)
reorient_job elements o output =
    record { causes = reorient_causes elements o (length output); end = accept; result = reoriented_elements o elements; was = output }

-- cause 9 of either orientation; else 0, and the orientation as the place. It leaves nothing.
abbrev pub compose_job : ℕ → ℕ → Job (Unit {0})
compose_job first second =
    record { causes = unless (ltb first orientations) 9 ∷ unless (ltb second orientations) 9 ∷ []; end = accept_with (composed first second); result = tt; was = tt }
