-- The forward job of d dimensions (01, "Elements" and "Why a set or sheet is turned back"), for any buffers.
use Rattle.std.specs.Prelude.{◌∷◌}
use Rattle.integers.specs.Kit.{List, [], ℕ, ℤ, length}
use Rattle.integers.specs.Range.{outside_at}
use Rattle.limits.specs.Limits.{places_in, components_in, lowest_sample, highest_sample}
use Rattle.answers.specs.Answer.{Cause, sized, lowest, accept}
use Rattle.answers.specs.Job.{Job}
use Rattle.blocks.specs.Blocks.{elements_of}

-- causes 1 and 2, in this order, for a buffer of n numbers of elements
abbrev pub forward_causes : ℕ → List ℤ → ℕ → List Cause
forward_causes d samples n =
    sized (length samples) (places_in d)
    ∷ sized n (components_in d)
    ∷ lowest (places_in d) (outside_at lowest_sample highest_sample samples) 2
    ∷ []

-- it leaves the block's exact elements
abbrev pub forward_job : ℕ → List ℤ → List ℤ → Job (List ℤ)
forward_job d samples elements =
    record { causes = forward_causes d samples (length elements); end = accept; result = elements_of d samples; was = elements }
