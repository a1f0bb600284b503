-- What calls of quantize leave, in 02's words (request 2).
use Rattle.std.specs.Prelude.{◌≡◌, ◌<◌}
use Rattle.integers.specs.Kit.{sym, ◌∙◌, List, ℕ, ℤ, pos, neg_ℤ, length, get_or}
use Rattle.integers.specs.Nearest.{Rounded, Away}
use Rattle.integers.proofs.Magnitudes.{nat_abs_neg}
use Rattle.integers.proofs.Ranges.{not_beyond, within_limit}
use Rattle.integers.proofs.Tables.{length-table, get_d_table}
use Rattle.limits.specs.Limits.{places, coefficient_limit}
use Rattle.answers.specs.Answer.{accept}
use Rattle.answers.specs.Job.{job_returned, job_left, Accepts}
use Rattle.answers.proofs.Jobs.{accepted_leaves}
use Rattle.quantizer.specs.Quantizer.{step_of, divisor, quantized}
use Rattle.quantizer.proofs.Values as values
use Rattle.quantize.specs.Quantize.{quantized_at, quantize_job}
use Rattle.quantize.proofs.Acceptance.{quantize_accepts, quantize_means}

-- an accepted call of quantize, at each place

module _ (y : List ℤ) (s : List ℕ) (q : List ℤ) (h : Accepts (quantize_job y s q)) where
  pub quantized-length : length (job_left (quantize_job y s q)) ≡ places
  quantized-length = rw (accepted_leaves (quantize_job y s q) h) (length-table places (quantized_at y s))

  module _ (p : ℕ) (l : p < places) where
    pub positive : 0 < step_of s p
    positive = (values.step-inside (quantize_means y s q h).ready.ready_steps p l).0

    pub quantized-place : get_or (job_left (quantize_job y s q)) p (pos 0) ≡ quantized (get_or y p (pos 0)) (step_of s p)
    quantized-place = rw (accepted_leaves (quantize_job y s q) h) (get_d_table places (quantized_at y s) (pos 0) p l)

    -- "the coefficient in eighths over 8 × step, to the nearest, halves away from zero"
    pub nearest_place : Rounded Away (get_or y p (pos 0)) (divisor (step_of s p)) (get_or (job_left (quantize_job y s q)) p (pos 0))
    nearest_place = rw quantized-place (values.quantized-rounded (step_of s p) positive (get_or y p (pos 0)))

    -- and no other number is
    pub only-place : {r : ℤ} → Rounded Away (get_or y p (pos 0)) (divisor (step_of s p)) r → r ≡ get_or (job_left (quantize_job y s q)) p (pos 0)
    only-place R = values.only-quantized (step_of s p) positive R ∙ sym quantized-place

-- a coefficient and its negative are quantized to opposite values, at the same steps
pub opposite : (y z : List ℤ) (s : List ℕ) (q r : List ℤ) → Accepts (quantize_job y s q) → Accepts (quantize_job z s r)
    → (p : ℕ) → p < places → get_or z p (pos 0) ≡ neg_ℤ (get_or y p (pos 0))
    → get_or (job_left (quantize_job z s r)) p (pos 0) ≡ neg_ℤ (get_or (job_left (quantize_job y s q)) p (pos 0))
opposite y z s q r h k p l e =
    rw (quantized-place y s q h p l, quantized-place z s r k p l, e)
    (values.quantized_opposite (step_of s p) (positive y s q h p l) (get_or y p (pos 0)))

-- and with a block of coefficients that of their negatives is accepted
pub negatives-accepted : (y z : List ℤ) (s : List ℕ) (q r : List ℤ) → Accepts (quantize_job y s q) → length z ≡ places → length r ≡ places
    → ((p : ℕ) → p < places → get_or z p (pos 0) ≡ neg_ℤ (get_or y p (pos 0))) → job_returned (quantize_job z s r) ≡ accept
negatives-accepted y z s q r h e f g =
    let A = quantize_means y s q h in
    quantize_accepts z s r
    (record {
      ready = record { numbers = e; ready_steps = A.ready.ready_steps; room = f };
      none_beyond = λ p l.
          let small = within_limit coefficient_limit (get_or y p (pos 0)) (A.none_beyond p l) in
          not_beyond coefficient_limit (get_or z p (pos 0)) (rw (g p l, nat_abs_neg (get_or y p (pos 0))) small);
    })
