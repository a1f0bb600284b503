-- Which calls of to_floats are accepted: those with 64 coefficients within the limit, and room for 64 floats.
use Rattle.std.specs.Prelude.{◌≡◌, ◌≤◌, ◌<◌}
use Rattle.integers.specs.Kit.{List, ℕ, lit<, ℤ, nat_abs, length}
use lib.Dec.{eqb→eq}
use lib.Ieee.{Float}
use Rattle.integers.proofs.Ranges.{within_limit}
use Rattle.limits.specs.Limits.{places, coefficient_limit}
use Rattle.answers.specs.Answer.{Each, Passes, accept}
use Rattle.answers.specs.Job.{job_returned, Accepts}
use Rattle.answers.proofs.Causes.{right_length}
use Rattle.answers.proofs.Jobs as jobs
use Rattle.to_floats.specs.Preconditions.{BlockInLimit}
use Rattle.to_floats.specs.ToFloats.{coefficient_at, block_causes, to_floats_job}

module _ (y : List ℤ) where
  -- the coefficients are within the limit
  pub small : BlockInLimit y → (p : ℕ) → p < places → nat_abs (coefficient_at y p) ≤ coefficient_limit
  small W p h = within_limit coefficient_limit (coefficient_at y p) (W.none_beyond p h)

  pub within_passes : BlockInLimit y → Each Passes (block_causes y)
  within_passes W = (right_length W.size, (W.none_beyond, tt))

  pub passes_within : Each Passes (block_causes y) → BlockInLimit y
  passes_within (a, (b, rest)) = record { size = eqb→eq (length y) places a; none_beyond = b }

  module _ (floats : List Float) where
    pub floats_accepts : BlockInLimit y → length floats ≡ places → job_returned (to_floats_job y floats) ≡ accept
    floats_accepts W e = jobs.accepts (to_floats_job y floats) (right_length e, within_passes W)

    pub floats_means : Accepts (to_floats_job y floats) → BlockInLimit y × (length floats ≡ places)
    floats_means h =
        let (a, rest) = jobs.accepted_means (to_floats_job y floats) (lit< tt, (lit< tt, ((λ i f. lit< tt), tt))) h in
        (passes_within rest, eqb→eq (length floats) places a)
