-- Which calls are accepted: of `reorient` those with an accepted set, an orientation and room for 512 numbers; of `compose_orientations` those with two
-- orientations.
use Rattle.std.specs.Prelude.{◌≡◌, ◌<◌}
use Rattle.integers.specs.Kit.{List, ℕ, T, ltb, lit<, ℤ, length}
use lib.Dec.{eqb→eq, ltb→lt}
use borrow.Author.Tests.{lt-ltb}
use Rattle.limits.specs.Limits.{places, components_size, magnitudes_limit}
use Rattle.answers.specs.Answer.{accept, accept_with}
use Rattle.answers.specs.Job.{job_returned, Accepts}
use Rattle.answers.proofs.Causes.{right_length}
use Rattle.answers.proofs.Jobs as jobs
use Rattle.element_sets.specs.Sets.{AcceptedSet}
use Rattle.element_sets.proofs.Limit.{none_above, passed}
use Rattle.orientations.specs.Orientation.{orientations, composed}
use Rattle.reorient.specs.Reorient.{reorient_job, compose_job}

-- an orientation passes the test
pub known : (o : ℕ) → o < orientations → T (ltb o orientations)
known o h = rw (lt-ltb o orientations h) tt

module _ (e : List ℤ) (o : ℕ) (out : List ℤ) where
  pub accepts : AcceptedSet places magnitudes_limit e → o < orientations → length out ≡ components_size → job_returned (reorient_job e o out) ≡ accept
  accepts set h l = jobs.accepts (reorient_job e o out) (right_length set.size, (right_length l, (known o h, (none_above set, tt))))

  pub accepted_means : Accepts (reorient_job e o out) → AcceptedSet places magnitudes_limit e × (o < orientations) × (length out ≡ components_size)
  accepted_means h =
      let (l, (k, (t, (none, rest)))) = jobs.accepted_means (reorient_job e o out) (lit< tt, (lit< tt, (lit< tt, ((λ i f. lit< tt), tt)))) h in
      (passed (eqb→eq (length e) components_size l) none, ltb→lt o orientations t, eqb→eq (length out) components_size k)

module _ (a b : ℕ) where
  pub composes : a < orientations → b < orientations → job_returned (compose_job a b) ≡ accept_with (composed a b)
  composes h k = jobs.accepts (compose_job a b) (known a h, (known b k, tt))

  pub composes_only : Accepts (compose_job a b) → (a < orientations) × (b < orientations)
  composes_only h =
      let (s, (t, rest)) = jobs.accepted_means (compose_job a b) (lit< tt, (lit< tt, tt)) h in
      (ltb→lt a orientations s, ltb→lt b orientations t)
