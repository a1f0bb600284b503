-- The job `quantize` (02, request 2), for any numbers and any buffers, and the causes that it shares with `dequantize`.
use Rattle.std.specs.Prelude.{◌∷◌, ◌++◌}
use Rattle.integers.specs.Kit.{Bool, List, [], ℕ, ℤ, pos, length, get_or}
use Rattle.integers.specs.Range.{beyond_at}
use Rattle.integers.specs.Table.{table}
use Rattle.limits.specs.Limits.{places, coefficient_limit}
use Rattle.answers.specs.Answer.{Cause, sized, lowest, accept}
use Rattle.answers.specs.Job.{Job}
use Rattle.quantizer.specs.Quantizer.{step_outside_at, step_of, quantized}

-- causes 1 and 10, in this order, for buffers of n and of m numbers
abbrev pub step_causes : ℕ → List ℕ → ℕ → List Cause
step_causes n steps m = sized n places ∷ sized (length steps) places ∷ sized m places ∷ lowest places (step_outside_at steps) 10 ∷ []

-- and then 11, at the first place that is faulty
abbrev pub causes : (ℕ → Bool) → ℕ → List ℕ → ℕ → List Cause
causes faulty n steps m = step_causes n steps m ++ lowest places faulty 11 ∷ []

-- a job with these causes, for n numbers: it leaves `result`
abbrev pub job : (ℕ → Bool) → ℕ → List ℕ → List ℤ → List ℤ → Job (List ℤ)
job faulty n steps result was = record { causes = causes faulty n steps (length was); end = accept; result = result; was = was }

-- the quantized value of the place p
abbrev pub quantized_at : List ℤ → List ℕ → ℕ → ℤ
quantized_at coefficients steps p = quantized (get_or coefficients p (pos 0)) (step_of steps p)

-- "It stands at its coefficient's place, row by row"
abbrev pub quantized_values : List ℤ → List ℕ → List ℤ
quantized_values coefficients steps = table places (quantized_at coefficients steps)

-- it leaves the quantized values; cause 11: "a coefficient beyond ±4,194,303"
abbrev pub quantize_job : List ℤ → List ℕ → List ℤ → Job (List ℤ)
quantize_job coefficients steps values =
    job (beyond_at coefficient_limit coefficients) (length coefficients) steps (quantized_values coefficients steps) values
