-- The job `dequantize` (02, request 2), for any numbers and any buffers.
use Rattle.integers.specs.Kit.{Bool, List, ℕ, ℤ, pos, length, get_or}
use Rattle.integers.specs.Range.{beyond}
use Rattle.integers.specs.Table.{table}
use Rattle.limits.specs.Limits.{places, dequantized_limit}
use Rattle.answers.specs.Job.{Job}
use Rattle.quantizer.specs.Quantizer.{step_of, dequantized}
use Rattle.quantize.specs.Quantize.{job}

-- the dequantized coefficient of the place p
abbrev pub dequantized_at : List ℤ → List ℕ → ℕ → ℤ
dequantized_at values steps p = dequantized (get_or values p (pos 0)) (step_of steps p)

-- those of all places
abbrev pub dequantized_coefficients : List ℤ → List ℕ → List ℤ
dequantized_coefficients values steps = table places (dequantized_at values steps)

-- cause 11: "on the way back a result beyond ±4,198,399"
abbrev pub dequantized_beyond_at : List ℤ → List ℕ → ℕ → Bool
dequantized_beyond_at values steps p = beyond dequantized_limit (dequantized_at values steps p)

-- it leaves the dequantized coefficients
abbrev pub dequantize_job : List ℤ → List ℕ → List ℤ → Job (List ℤ)
dequantize_job values steps coefficients =
    job (dequantized_beyond_at values steps) (length values) steps (dequantized_coefficients values steps) coefficients
