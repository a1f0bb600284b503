-- Which calls of summary are accepted: those with 64 coefficients within the limit.
use Rattle.std.specs.Prelude.{◌≡◌}
use Rattle.integers.specs.Kit.{List, lit<, ℤ}
use Rattle.answers.specs.Answer.{accept}
use Rattle.answers.specs.Job.{job_returned, Accepts}
use Rattle.answers.proofs.Jobs as jobs
use Rattle.to_floats.specs.Preconditions.{BlockInLimit}
use Rattle.summary.specs.Summary.{summary_job}
use Rattle.to_floats.proofs.Acceptance.{within_passes, passes_within}

module _ (y : List ℤ) where
  pub summary_accepts : BlockInLimit y → job_returned (summary_job y) ≡ accept
  summary_accepts W = jobs.accepts (summary_job y) (within_passes y W)

  pub summary_means : Accepts (summary_job y) → BlockInLimit y
  summary_means h = passes_within y (jobs.accepted_means (summary_job y) (lit< tt, ((λ i f. lit< tt), tt)) h)
