-- Which calls are accepted: those with 64 numbers, 64 steps in range, room for 64 numbers, and no place beyond its limit; and what is answered by a
-- job that asks `check_steps` for causes 1 and 10, and then looks for a place beyond its limit.
use Rattle.std.specs.Prelude.{◌≡◌, ◌∷◌}
use Rattle.integers.specs.Kit.{subst, Bool, List, [], ℕ, T, lit<, ℤ, length}
use lib.Dec.{eqb→eq}
use Rattle.integers.specs.Range.{beyond_at}
use Rattle.limits.specs.Limits.{places, coefficient_limit}
use Rattle.answers.specs.declared.Refusal.{Refusal}
use Rattle.answers.specs.Answer.{Returned, Each, Passes, Numbered, lowest, answered, accept, accepted, refused}
use Rattle.answers.specs.Job.{job_returned, Accepts}
use Rattle.answers.proofs.Causes.{accepted_first, accepted_means, refused_first, right_length}
use Rattle.answers.proofs.Jobs as jobs
use Rattle.quantize.specs.Quantize.{step_causes, causes, quantize_job}
use Rattle.quantize.specs.Quantize.{job}
use Rattle.quantize.specs.Preconditions.{StepsReady, PlacesReady}

-- causes 1 and 10

passes_ready : (n : ℕ) (steps : List ℕ) (m : ℕ) → Each Passes (step_causes n steps m) → StepsReady n steps m
passes_ready n steps m (a, (b, (c, (s, rest)))) =
    record { numbers = eqb→eq n places a; ready_steps = record { size = eqb→eq (length steps) places b; in_range = s }; room = eqb→eq m places c }

-- a job of either kind

module _ (faulty : ℕ → Bool) (n : ℕ) (steps : List ℕ) (result was : List ℤ) where
  pub accepts : PlacesReady faulty n steps (length was) → job_returned (job faulty n steps result was) ≡ accept
  accepts A =
      let R = A.ready in
      jobs.accepts (job faulty n steps result was)
      (right_length R.numbers, (right_length R.ready_steps.size, (right_length R.room, (R.ready_steps.in_range, (A.none_beyond, tt)))))

  pub means : Accepts (job faulty n steps result was) → PlacesReady faulty n steps (length was)
  means h =
      let (a, (b, (c, (s, (t, rest))))) = jobs.accepted_means (job faulty n steps result was) (lit< tt, (lit< tt, (lit< tt, ((λ i f. lit< tt), ((λ i f. lit< tt), tt))))) h in
      record { ready = passes_ready n steps (length was) (a, (b, (c, (s, tt)))); none_beyond = t }

module _ (y : List ℤ) (s : List ℕ) (q : List ℤ) where
  pub quantize_accepts : PlacesReady (beyond_at coefficient_limit y) (length y) s (length q) → job_returned (quantize_job y s q) ≡ accept
  quantize_accepts = accepts (beyond_at coefficient_limit y) (length y) s (quantize_job y s q).result q

  pub quantize_means : Accepts (quantize_job y s q) → PlacesReady (beyond_at coefficient_limit y) (length y) s (length q)
  quantize_means = means (beyond_at coefficient_limit y) (length y) s (quantize_job y s q).result q

-- where `check_steps` accepts
numbered : (n : ℕ) (steps : List ℕ) (m : ℕ) → Each Numbered (step_causes n steps m)
numbered n steps m = (lit< tt, (lit< tt, (lit< tt, ((λ i f. lit< tt), tt))))

pub ready : {n : ℕ} {steps : List ℕ} {m : ℕ} → accept ≡ answered (step_causes n steps m) accept → StepsReady n steps m
ready {n} {steps} {m} h = passes_ready n steps m (accepted_means (step_causes n steps m) accept (numbered n steps m) (subst (λ r. T (accepted r)) h tt))

-- a job that asks it refuses where it does, and otherwise the places decide
module _ (faulty : ℕ → Bool) (n : ℕ) (steps : List ℕ) (m : ℕ) where
  pub steps_refused : (e : Refusal) → refused e ≡ answered (step_causes n steps m) accept → refused e ≡ answered (causes faulty n steps m) accept
  steps_refused e = refused_first (step_causes n steps m) (lowest places faulty 11 ∷ []) accept e 0

  pub places_decide : {r : Returned} → accept ≡ answered (step_causes n steps m) accept → r ≡ answered (lowest places faulty 11 ∷ []) accept
      → r ≡ answered (causes faulty n steps m) accept
  places_decide {r} = accepted_first (step_causes n steps m) (lowest places faulty 11 ∷ []) accept r (numbered n steps m) 0 0
