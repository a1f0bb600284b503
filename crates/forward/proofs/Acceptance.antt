-- Which calls of forward are accepted: those with a block in range, and room for its elements.
use Rattle.std.specs.Prelude.{◌≡◌}
use Rattle.integers.specs.Kit.{List, ℕ, suc, lit<, ℤ, length}
use lib.Dec.{eqb→eq}
use Rattle.limits.specs.Limits.{places_in, components_in, sample_limit, magnitudes_limit_in}
use Rattle.answers.specs.Answer.{accept}
use Rattle.answers.specs.Job.{job_returned, job_left, Accepts}
use Rattle.answers.proofs.Causes.{right_length}
use Rattle.answers.proofs.Jobs as jobs
use Rattle.blocks.specs.Blocks.{AllInRange}
use Rattle.element_sets.specs.Sets.{AcceptedSet}
use Rattle.element_sets.proofs.Limit.{block-set}
use Rattle.forward.specs.Forward.{forward_job}

module _ (d : ℕ) (x e : List ℤ) where
  pub accepts : length x ≡ places_in d → length e ≡ components_in d → AllInRange d x → job_returned (forward_job d x e) ≡ accept
  accepts s t range = jobs.accepts (forward_job d x e) (right_length s, (right_length t, (range.at, tt)))

  pub accepted_means : Accepts (forward_job d x e) → (length x ≡ places_in d) × (length e ≡ components_in d) × AllInRange d x
  accepted_means h =
      let (s, (t, (range, rest))) = jobs.accepted_means (forward_job d x e) (lit< tt, (lit< tt, ((λ i f. lit< tt), tt))) h in
      (eqb→eq (length x) (places_in d) s, eqb→eq (length e) (components_in d) t, record { at = range })

-- what an accepted call leaves is an accepted set
pub forward-set : (d : ℕ) (x e : List ℤ) → Accepts (forward_job (suc d) x e)
    → AcceptedSet (places_in (suc d)) (magnitudes_limit_in sample_limit (suc d)) (job_left (forward_job (suc d) x e))
forward-set d x e h = rw (jobs.accepted_leaves (forward_job (suc d) x e) h) (block-set d x (accepted_means (suc d) x e h).2)
