-- What calls leave, in 02's words (request 1): after forward, before back, and one after another.
use Rattle.std.specs.Prelude.{◌≡◌, ◌<◌}
use Rattle.integers.specs.Kit.{sym, ap, ◌∙◌, List, ℕ, ℤ, length}
use Rattle.limits.specs.Limits.{places, components_size, magnitudes_limit}
use Rattle.ring.specs.Element.{scale}
use Rattle.answers.specs.Answer.{accept}
use Rattle.answers.specs.Job.{job_returned, job_left, Accepts}
use Rattle.answers.proofs.Jobs.{accepted_leaves}
use Rattle.elements.specs.Buffer.{element_at}
use Rattle.element_sets.specs.Sets.{AcceptedSet}
use Rattle.orientations.specs.Orientation.{orientations, reoriented_block, source, sign, reoriented_elements, composed}
use Rattle.orientations.proofs.Places.{composed-below}
use Rattle.orientations.proofs.Sets as sets
use Rattle.orientations.proofs.Blocks.{length-block, block_in_range, elements_of-block}
use Rattle.forward.specs.Forward.{forward_job}
use Rattle.forward.proofs.Acceptance as forward
use Rattle.back.specs.Back.{back_job}
use Rattle.back.proofs.Meaning.{back_of_forward}
use Rattle.reorient.specs.Reorient.{reorient_job, compose_job}
use Rattle.reorient.proofs.Acceptance.{accepts, accepted_means, composes}

-- an accepted call, whatever the set

module _ (e : List ℤ) (o : ℕ) (out : List ℤ) (h : Accepts (reorient_job e o out)) where
  -- "the same elements change place and sign"; each does so once (`exactly_once`)
  pub element_place : (p : ℕ) → p < places → element_at (job_left (reorient_job e o out)) p ≡ scale (sign o p) (element_at e (source o p))
  element_place p l = rw (accepted_leaves (reorient_job e o out) h) (sets.element-reoriented o e p l)

  -- what it leaves is an accepted set again
  pub leaves_set : AcceptedSet places magnitudes_limit (job_left (reorient_job e o out))
  leaves_set =
      let (set, known, room) = accepted_means e o out h in
      rw (accepted_leaves (reorient_job e o out) h) (sets.reoriented-set o e known set)

-- "Turn 0 changes nothing"
pub unchanged : (e out : List ℤ) → Accepts (reorient_job e 0 out) → job_left (reorient_job e 0 out) ≡ e
unchanged e out h = accepted_leaves (reorient_job e 0 out) h ∙ sets.unchanged e (accepted_means e 0 out h).0.size

-- "One turn followed by another equals the turn that an 8 by 8 table names, for every pair and every set inside the size limit": the second call is
-- accepted, and so is one call with the orientation that `compose_orientations` returns; both leave the same
pub one_after_another : (e : List ℤ) (a b : ℕ) (first second once : List ℤ) → Accepts (reorient_job e a first) → b < orientations
    → length second ≡ components_size → length once ≡ components_size
    → (job_returned (reorient_job (job_left (reorient_job e a first)) b second) ≡ accept)
    × ((job_returned (compose_job a b)).number ≡ 0)
    × (job_returned (reorient_job e (job_returned (compose_job a b)).place once) ≡ accept)
    × (job_left (reorient_job (job_left (reorient_job e a first)) b second) ≡ job_left (reorient_job e (job_returned (compose_job a b)).place once))
one_after_another e a b first second once h k l m =
    let (set, known, room) = accepted_means e a first h in
    let again = accepts (job_left (reorient_job e a first)) b second (leaves_set e a first h) k l in
    let named = sym (composes a b known k) in
    let at_once = accepts e (composed a b) once set (composed-below a b known k) m in (
      again,
      rw (← named),
      rw (← named) at_once,
      accepted_leaves (reorient_job (job_left (reorient_job e a first)) b second) (rw again tt) ∙ ap (reoriented_elements b) (accepted_leaves (reorient_job e a first) h)
          ∙ sets.one_after_another a b e known k ∙ sym (accepted_leaves (reorient_job e (composed a b) once) (rw at_once tt)) ∙ rw (← named),
    )

-- "Turning a block's elements gives the elements of the turned block"

module _ (x e : List ℤ) (h : Accepts (forward_job 2 x e)) (o : ℕ) (k : o < orientations) where
  -- forward accepts the block in that orientation
  pub block-accepted : (f : List ℤ) → length f ≡ components_size → job_returned (forward_job 2 (reoriented_block o x) f) ≡ accept
  block-accepted f l = forward.accepts 2 (reoriented_block o x) f (length-block o x) l (block_in_range o x k (forward.accepted_means 2 x e h).2)

  -- forward and then reorient leaves what forward of the reoriented block leaves
  pub after_forward : (out f : List ℤ) → length out ≡ components_size → length f ≡ components_size
      → (job_returned (reorient_job (job_left (forward_job 2 x e)) o out) ≡ accept)
      × (job_left (reorient_job (job_left (forward_job 2 x e)) o out) ≡ job_left (forward_job 2 (reoriented_block o x) f))
  after_forward out f l m =
      let answer = accepts (job_left (forward_job 2 x e)) o out (forward.forward-set 1 x e h) k l in (
        answer,
        accepted_leaves (reorient_job (job_left (forward_job 2 x e)) o out) (rw answer tt) ∙ ap (reoriented_elements o) (accepted_leaves (forward_job 2 x e) h)
            ∙ sym (elements_of-block o x k) ∙ sym (accepted_leaves (forward_job 2 (reoriented_block o x) f) (rw (block-accepted f m) tt)),
      )

  -- and back of that is the block in that orientation
  pub back_after : (out s : List ℤ) → length out ≡ components_size → length s ≡ places
      → (job_returned (back_job 2 (job_left (reorient_job (job_left (forward_job 2 x e)) o out)) s) ≡ accept)
      × (job_left (back_job 2 (job_left (reorient_job (job_left (forward_job 2 x e)) o out)) s) ≡ reoriented_block o x)
  back_after out s l m =
      rw (after_forward out out l l).1 (back_of_forward 1 (reoriented_block o x) out s (rw (block-accepted out l) tt) m)
