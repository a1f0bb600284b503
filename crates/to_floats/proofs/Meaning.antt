-- What calls of to_floats leave, in 02's words (request 4).
use Rattle.std.specs.Prelude.{◌≡◌, ◌<◌}
use Rattle.integers.specs.Kit.{List, ℕ, lit≤, ℤ, nat_abs, get_or}
use lib.Ieee.{Float, lt}
use lib.Ieee.Exact.{HasValue}
use lib.Signed.{lt_z}
use Rattle.integers.proofs.Tables.{get_d_table}
use Rattle.limits.specs.Limits.{places}
use Rattle.answers.specs.Job.{job_left, Accepts}
use Rattle.answers.proofs.Jobs.{accepted_leaves}
use Rattle.floats.specs.Fraction.{negative, coefficient_float, plus_zero, exact_limit}
use Rattle.floats.proofs.Fractions.{few_digits, exact}
use Rattle.floats.proofs.Comparison.{in_order}
use Rattle.to_floats.specs.ToFloats.{coefficient_at, to_floats_job}
use Rattle.to_floats.proofs.Acceptance.{small, floats_means}

-- an accepted call of to_floats

module _ (y : List ℤ) (floats : List Float) (h : Accepts (to_floats_job y floats)) where
  pub float_place : (p : ℕ) → p < places → get_or (job_left (to_floats_job y floats)) p plus_zero ≡ coefficient_float (coefficient_at y p)
  float_place p l = rw (accepted_leaves (to_floats_job y floats) h) (get_d_table places (λ p. coefficient_float (coefficient_at y p)) plus_zero p l)

  digits_at : (p : ℕ) → p < places → nat_abs (coefficient_at y p) < exact_limit
  digits_at p l = few_digits (coefficient_at y p) (small y (floats_means y floats h).0 p l)

  -- "exactly its eighths divided by 8": finite, of the coefficient's sign, its magnitude over 8
  pub float_exact : (p : ℕ) → p < places
      → HasValue (get_or (job_left (to_floats_job y floats)) p plus_zero) (negative (coefficient_at y p)) (nat_abs (coefficient_at y p)) 8
  float_exact p l = rw (float_place p l) (exact 3 (coefficient_at y p) (lit≤ tt) (digits_at p l))

  -- the order of the floats is that of the coefficients
  pub float_order : (p q : ℕ) → p < places → q < places
      → lt (get_or (job_left (to_floats_job y floats)) p plus_zero) (get_or (job_left (to_floats_job y floats)) q plus_zero) ≡ lt_z (coefficient_at y p) (coefficient_at y q)
  float_order p q k l = rw (float_place p k, float_place q l) (in_order 3 (coefficient_at y p) (coefficient_at y q) (lit≤ tt) (digits_at p k) (digits_at q l))
