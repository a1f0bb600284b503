-- The job `to_floats` (02, request 4), for any numbers and any buffers.
use Rattle.std.specs.Prelude.{◌∷◌, Float}
use Rattle.integers.specs.Kit.{List, [], ℕ, ℤ, pos, length, get_or}
use Rattle.integers.specs.Range.{beyond_at}
use Rattle.integers.specs.Table.{table}
use Rattle.limits.specs.Limits.{places, coefficient_limit}
use Rattle.answers.specs.Answer.{Cause, sized, lowest, accept}
use Rattle.answers.specs.Job.{Job}
use Rattle.floats.specs.Fraction.{coefficient_float}

-- "A block [..] 64 numbers [..], else 1; then 11, at the coefficient's index"
abbrev pub block_causes : List ℤ → List Cause
block_causes y = sized (length y) places ∷ lowest places (beyond_at coefficient_limit y) 11 ∷ []

-- "A block and its floats", for a buffer of m floats
abbrev pub to_floats_causes : List ℤ → ℕ → List Cause
to_floats_causes y m = sized m places ∷ block_causes y

-- coefficient p of a block
abbrev pub coefficient_at : List ℤ → ℕ → ℤ
coefficient_at y p = get_or y p (pos 0)

-- "each coefficient as a float"
abbrev pub block_floats : List ℤ → List Float
block_floats y = table places (λ p. coefficient_float (coefficient_at y p))

-- it leaves these
abbrev pub to_floats_job : List ℤ → List Float → Job (List Float)
to_floats_job y floats = record { causes = to_floats_causes y (length floats); end = accept; result = block_floats y; was = floats }
