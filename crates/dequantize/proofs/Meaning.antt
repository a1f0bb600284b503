-- What calls of dequantize leave, in 02's words (request 2), and what they do after quantize and before it.
use Rattle.std.specs.Prelude.{◌≡◌, ◌*◌, ◌≤◌, ◌<◌, ◌-ℤ◌}
use Rattle.integers.specs.Kit.{sym, ap, ◌∙◌, List, ℕ, ℤ, pos, nat_abs, length, get_or}
use Rattle.integers.proofs.Ranges.{not_beyond, within_limit}
use Rattle.integers.proofs.Tables.{length-table, get_d_table, is_table}
use Rattle.limits.specs.Limits.{places, coefficient_limit, dequantized_limit}
use Rattle.answers.specs.Answer.{accept}
use Rattle.answers.specs.Job.{job_returned, job_left, Accepts}
use Rattle.answers.proofs.Jobs.{accepted_leaves}
use Rattle.quantizer.specs.Quantizer.{step_of, quantized, dequantized}
use Rattle.quantizer.proofs.Values as values
use Rattle.quantize.specs.Quantize.{quantized_at, quantize_job}
use Rattle.dequantize.specs.Dequantize.{dequantized_at, dequantize_job}
use Rattle.quantize.proofs.Acceptance.{quantize_accepts, quantize_means}
use Rattle.dequantize.proofs.Acceptance.{dequantize_accepts, dequantize_means}
use Rattle.quantize.proofs.Meaning.{quantized-length, positive, quantized-place}

module _ (y : List ℤ) (s : List ℕ) (q : List ℤ) (h : Accepts (quantize_job y s q)) where
  -- whatever quantize writes, dequantize accepts at the same steps
  pub dequantize-accepted : (b : List ℤ) → length b ≡ places → job_returned (dequantize_job (job_left (quantize_job y s q)) s b) ≡ accept
  dequantize-accepted b e =
      let A = quantize_means y s q h in
      dequantize_accepts (job_left (quantize_job y s q)) s b
      (record {
        ready = record { numbers = quantized-length y s q h; ready_steps = A.ready.ready_steps; room = e };
        none_beyond = λ p l.
            let (some, most) = values.step-inside A.ready.ready_steps p l in
            let small = within_limit coefficient_limit (get_or y p (pos 0)) (A.none_beyond p l) in
            rw (quantized-place y s q h p l) (not_beyond dequantized_limit (dequantized (quantized (get_or y p (pos 0)) (step_of s p)) (step_of s p))
            (values.dequantized_small (step_of s p) some (get_or y p (pos 0)) small most));
      })

-- an accepted call of dequantize

module _ (q : List ℤ) (s : List ℕ) (b : List ℤ) (h : Accepts (dequantize_job q s b)) where
  -- at each place "The way back is the kept number times 8 × step"
  pub dequantized-place : (p : ℕ) → p < places → get_or (job_left (dequantize_job q s b)) p (pos 0) ≡ dequantized (get_or q p (pos 0)) (step_of s p)
  dequantized-place p l = rw (accepted_leaves (dequantize_job q s b) h) (get_d_table places (dequantized_at q s) (pos 0) p l)

  dequantized-length : length (job_left (dequantize_job q s b)) ≡ places
  dequantized-length = rw (accepted_leaves (dequantize_job q s b) h) (length-table places (dequantized_at q s))

  -- where it leaves coefficients within their limit, quantize accepts them at the same steps, and gives the same values again
  pub quantized_again : (r : List ℤ) → length r ≡ places
      → ((p : ℕ) → p < places → nat_abs (get_or (job_left (dequantize_job q s b)) p (pos 0)) ≤ coefficient_limit)
      → (job_returned (quantize_job (job_left (dequantize_job q s b)) s r) ≡ accept) × (job_left (quantize_job (job_left (dequantize_job q s b)) s r) ≡ q)
  quantized_again r e within =
      let y = job_left (dequantize_job q s b) in
      let A = dequantize_means q s b h in
      let k : job_returned (quantize_job y s r) ≡ accept =
      quantize_accepts y s r
      (record {
        ready = record { numbers = dequantized-length; ready_steps = A.ready.ready_steps; room = e };
        none_beyond = λ p l. not_beyond coefficient_limit (get_or y p (pos 0)) (within p l);
      }) in (
        k,
        accepted_leaves (quantize_job y s r) (rw k tt)
            ∙ sym (is_table (pos 0) q places (quantized_at y s) A.ready.numbers (λ p l.
            sym (ap (λ y. quantized y (step_of s p)) (dequantized-place p l)
            ∙ values.quantized_again (step_of s p) (values.step-inside A.ready.ready_steps p l).0 (get_or q p (pos 0))))),
      )

-- there and back: "The distance between coefficient and way back is at most 4 × step"
pub distance : (y : List ℤ) (s : List ℕ) (q b : List ℤ) → Accepts (quantize_job y s q) → length b ≡ places → (p : ℕ) → p < places
    → nat_abs (get_or (job_left (dequantize_job (job_left (quantize_job y s q)) s b)) p (pos 0) -ℤ get_or y p (pos 0)) ≤ 4 * step_of s p
distance y s q b h e p l =
    let k : Accepts (dequantize_job (job_left (quantize_job y s q)) s b) = rw (dequantize-accepted y s q h b e) tt in
    rw (dequantized-place (job_left (quantize_job y s q)) s b k p l, quantized-place y s q h p l)
    (values.distance (step_of s p) (positive y s q h p l) (get_or y p (pos 0)))
