-- Which calls of round are accepted: those with an accepted set, room for its coefficients and one of the three widths. A block's set, the elements
-- that forward writes for a block in range, is one.
use Rattle.std.specs.Prelude.{◌≡◌}
use Rattle.integers.specs.Kit.{List, ℕ, T, lit<, ℤ, length}
use lib.Dec.{eqb→eq}
use Rattle.limits.specs.Limits.{places, places_in, components_in, sample_limit, magnitudes_limit_in}
use Rattle.answers.specs.Answer.{accept}
use Rattle.answers.specs.Job.{job_returned, job_left, Accepts}
use Rattle.answers.proofs.Causes.{right_length}
use Rattle.answers.proofs.Jobs as jobs
use Rattle.blocks.specs.Blocks.{AllInRange, elements_of}
use Rattle.element_sets.specs.Sets.{AcceptedSet}
use Rattle.element_sets.proofs.Limit.{block-set, none_above, passed}
use Rattle.forward.specs.Forward.{forward_job}
use Rattle.forward.proofs.Acceptance.{forward-set}
use Rattle.round.specs.Round.{round_job}
use Rattle.coefficients.specs.Tables.{width}

module _ (d : ℕ) (e : List ℤ) (b : ℕ) (c : List ℤ) where
  pub accepts : AcceptedSet (places_in d) (magnitudes_limit_in sample_limit d) e → length c ≡ places_in d → T (width b) → job_returned (round_job d e b c) ≡ accept
  accepts S l w = jobs.accepts (round_job d e b c) (right_length S.size, (right_length l, (w, (none_above S, tt))))

  -- and no other call is
  pub accepted_means : Accepts (round_job d e b c)
      → AcceptedSet (places_in d) (magnitudes_limit_in sample_limit d) e × (length c ≡ places_in d) × T (width b)
  accepted_means h =
      let (s, (t, (w, (none, rest)))) = jobs.accepted_means (round_job d e b c) (lit< tt, (lit< tt, (lit< tt, ((λ i f. lit< tt), tt)))) h in
      (passed (eqb→eq (length e) (components_in d) s) none, eqb→eq (length c) (places_in d) t, w)

-- blocks' sets

pub block-accepted : (x : List ℤ) → AllInRange 2 x → (b : ℕ) → T (width b) → (c : List ℤ) → length c ≡ places
    → job_returned (round_job 2 (elements_of 2 x) b c) ≡ accept
block-accepted x range b w c l = accepts 2 (elements_of 2 x) b c (block-set 1 x range) l w

-- what an accepted call of forward leaves
pub set-accepted : (x e : List ℤ) → Accepts (forward_job 2 x e) → (b : ℕ) → T (width b) → (c : List ℤ) → length c ≡ places
    → job_returned (round_job 2 (job_left (forward_job 2 x e)) b c) ≡ accept
set-accepted x e h b w c l = accepts 2 (job_left (forward_job 2 x e)) b c (forward-set 1 x e h) l w
