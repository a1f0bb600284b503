-- What the way back does, in 01's words: a call with room for a block is accepted exactly when there is a block in range that has these elements; then
-- the buffer holds that block, which is the only one. An accepted set that no block has is refused by cause 5. And what forward and back do
-- after one another. All of it for suc d dimensions: 01's blocks have d = 1.
use Rattle.std.specs.Prelude.{◌≡◌, ◌+◌, ◌*◌, ◌/◌, ◌%◌, ◌<◌}
use Rattle.integers.specs.Kit.{sym, ap, subst, ◌∙◌, List, ℕ, suc, T, lit<, ℤ, pos, length, get_or}
use mathlib.Core.Logic.{◌↔◌}
use native.Mathlib.Omega.{arith}
use lib.Dec.{eqb→eq}
use Rattle.integers.proofs.Tables.{is_table}
use Rattle.integers.proofs.Tests.{fails}
use Rattle.limits.specs.Limits.{places_in, components_in, sample_limit, magnitudes_limit_in}
use Rattle.ring.specs.Element.{component}
use Rattle.dct.specs.Transform.{factor, element, double_sum}
use Rattle.dct.proofs.Factors.{eight_factor}
use Rattle.dct.proofs.Dimensions.{element-double_sum, element_by-number}
use Rattle.answers.specs.Answer as answers
use Rattle.answers.specs.Answer.{Returned, Reason, holds, passes, accept}
use Rattle.answers.specs.Job.{job_returned, job_left, Accepts}
use Rattle.answers.proofs.Causes.{right_length}
use Rattle.answers.proofs.Jobs as jobs
use Rattle.blocks.specs.Blocks.{sample, AllInRange, elements_by, elements_of}
use Rattle.element_sets.specs.Sets.{AcceptedSet}
use Rattle.element_sets.proofs.Limit.{block-set, none_above, passed}
use Rattle.blocks.proofs.Blocks.{length_elements, component_of}
use Rattle.forward.specs.Forward.{forward_job}
use Rattle.forward.proofs.Acceptance as forward
use Rattle.back.specs.Back.{candidate, is_block_of, back_causes, back_job, HasElements}
use Rattle.back.proofs.Candidate.{length-candidate, test_block, block_facts, only-candidate}

-- a block that has the elements, in the words of forward's definition

has_elements : (d : ℕ) (x e : List ℤ) → length x ≡ places_in d → AllInRange d x → elements_of d x ≡ e → HasElements d x e
has_elements d x e size range has = record {
  size = size;
  range = range;
  set_size = rw (← has) (length_elements factor d x);
  components = λ p k h l. rw (← has) (component_of factor d x p k h l);
}

pub elements_are : {d : ℕ} {x e : List ℤ} → HasElements d x e → elements_of d x ≡ e
unfolding elements_by
elements_are {d} {x} {e} H = sym (is_table (pos 0) e (components_in d) (λ i. component (element d (sample x) (i / 8)) (i % 8)) H.set_size at)
  where
    at : (i : ℕ) → i < components_in d → get_or e i (pos 0) ≡ component (element d (sample x) (i / 8)) (i % 8)
    at i h =
        let index : 8 * (i / 8) + i % 8 ≡ i = omega arith in
        rw index at (H.components (i / 8) (i % 8) (omega arith) (omega arith))

-- in 01's words, for two dimensions: "The exact element at (u,v) ... is the sum over all i, j of x(i,j) × t(u,i) × t(v,j)"
pub has_double_sums : {x e : List ℤ} → HasElements 2 x e → (u v k : ℕ) → u < 8 → v < 8 → k < 8
    → get_or e (8 * (8 * u + v) + k) (pos 0) ≡ component (double_sum (λ i j. sample x (8 * i + j)) u v) k
has_double_sums {x} H u v k h l m = H.components (8 * u + v) k (omega arith) m ∙ ap (λ a. component a k) (element-double_sum eight_factor (sample x) u v h l)

-- and these sums are enough
pub by_double_sums : (x e : List ℤ) → length x ≡ places_in 2 → AllInRange 2 x → length e ≡ components_in 2
    → ((u v k : ℕ) → u < 8 → v < 8 → k < 8 → get_or e (8 * (8 * u + v) + k) (pos 0) ≡ component (double_sum (λ i j. sample x (8 * i + j)) u v) k) → HasElements 2 x e
by_double_sums x e size range whole sums = record {
  size = size;
  range = range;
  set_size = whole;
  components = λ p k h l.
      let number : 8 * (p / 8) + p % 8 ≡ p = omega arith in
      rw number at (sums (p / 8) (p % 8) k (omega arith) (omega arith) l) ∙ ap (λ a. component a k) (sym (element_by-number eight_factor (sample x) p h));
}

module _ (d : ℕ) where
  is_candidate : {x e : List ℤ} → HasElements d x e → candidate d e ≡ x
  is_candidate {x} {e} H = only-candidate d e x H.size (elements_are H)

  -- the candidate has the elements exactly where some block has them

  candidate_has : (e : List ℤ) → T (is_block_of d e (candidate d e)) → HasElements d (candidate d e) e
  candidate_has e t = let (range, has) = block_facts d e (candidate d e) t in has_elements d (candidate d e) e (length-candidate d e) range has

  has_candidate : {x e : List ℤ} → HasElements d x e → T (is_block_of d e (candidate d e))
  has_candidate {x} {e} H = rw (is_candidate H) (test_block d e x H.range (elements_are H))

  -- a block is the only one
  pub only_one : (e x y : List ℤ) → HasElements d x e → HasElements d y e → x ≡ y
  only_one e x y H K = sym (is_candidate H) ∙ is_candidate K

-- which calls are accepted, in one dimension and more

module _ (d : ℕ) (e s : List ℤ) where
  abbrev n : ℕ
  n = suc d

  abbrev L : ℕ
  L = magnitudes_limit_in sample_limit n

  -- an accepted call had an accepted set and room for a block, and leaves a block that has the elements
  pub accepted_means : Accepts (back_job n e s) → AcceptedSet (places_in n) L e × (length s ≡ places_in n) × HasElements n (job_left (back_job n e s)) e
  accepted_means h =
      let (l, (k, (none, (test, rest)))) = jobs.accepted_means (back_job n e s) (lit< tt, (lit< tt, ((λ i f. lit< tt), (lit< tt, tt)))) h in
      (passed (eqb→eq (length e) (components_in n) l) none, eqb→eq (length s) (places_in n) k, rw (jobs.accepted_leaves (back_job n e s) h) (candidate_has n e test))

  module _ (room : length s ≡ places_in n) where
    -- where a block has the elements, the call is accepted and leaves that block
    pub accepts : (x : List ℤ) → HasElements n x e → (job_returned (back_job n e s) ≡ accept) × (job_left (back_job n e s) ≡ x)
    accepts x H =
        let set : AcceptedSet (places_in n) L e = rw (elements_are H) at (block-set d x H.range) in
        let answer = jobs.accepts (back_job n e s) (right_length set.size, (right_length room, (none_above set, (has_candidate n H, tt)))) in
        (answer, jobs.accepted_leaves (back_job n e s) (rw answer tt) ∙ is_candidate n H)

    -- so it is accepted exactly when some block has them
    pub exactly : Accepts (back_job n e s) ↔ ((x : List ℤ) × HasElements n x e)
    exactly = (λ h. (job_left (back_job n e s), (accepted_means h).2), λ (x, H). rw (accepts x H).0 tt)

    -- where none has an accepted set, it is refused by cause 5, and the samples are as they were
    pub refuses : AcceptedSet (places_in n) L e → ((x : List ℤ) → HasElements n x e → ⊥)
        → (job_returned (back_job n e s) ≡ record { number = 5; place = 0 }) × (job_left (back_job n e s) ≡ s)
    refuses set none =
        let none_has = fails (is_block_of n e (candidate n e)) (λ t. none (candidate n e) (candidate_has n e t)) in
        let answer = jobs.only_reason (back_job n e s)
        (passes (right_length set.size) (passes (right_length room) (passes (none_above set) (holds (answers.fails none_has))))) in
        (sym answer, jobs.refused_leaves (back_job n e s) (rw (← answer)))

  -- and a refusal by cause 5 comes only where no block has them
  pub refused_means : job_returned (back_job n e s) ≡ record { number = 5; place = 0 } → (x : List ℤ) → HasElements n x e → ⊥
  refused_means r x H = by (jobs.reason (back_job n e s)) (ap (λ (a : Returned). a.number) r)
    where
      by : {r : Returned} → Reason accept (back_causes n e (length s)) r → r.number ≡ 5 → ⊥
      by (holds (answers.fails t)) e = omega arith
      by (passes p (holds (answers.fails t))) e = omega arith
      by (passes p (passes q (holds (answers.faulty_at i h before t)))) e = omega arith
      by (passes p (passes q (passes u (holds (answers.fails t))))) e = subst T t (has_candidate n H)
      by (passes p (passes q (passes u (passes v answers.none_holds)))) e = omega arith

-- round trips

module _ (d : ℕ) where
  -- back of what forward writes is the block
  pub back_of_forward : (x e s : List ℤ) → Accepts (forward_job (suc d) x e) → length s ≡ places_in (suc d)
      → (job_returned (back_job (suc d) (job_left (forward_job (suc d) x e)) s) ≡ accept) × (job_left (back_job (suc d) (job_left (forward_job (suc d) x e)) s) ≡ x)
  back_of_forward x e s h room =
      let made = job_left (forward_job (suc d) x e) in
      let (size, whole, range) = forward.accepted_means (suc d) x e h in
      accepts d made s room x (has_elements (suc d) x made size range (sym (jobs.accepted_leaves (forward_job (suc d) x e) h)))

  -- forward of what back writes is the elements
  pub forward_of_back : (e s t : List ℤ) → Accepts (back_job (suc d) e s) → length t ≡ components_in (suc d)
      → (job_returned (forward_job (suc d) (job_left (back_job (suc d) e s)) t) ≡ accept) × (job_left (forward_job (suc d) (job_left (back_job (suc d) e s)) t) ≡ e)
  forward_of_back e s t h whole =
      let block = job_left (back_job (suc d) e s) in
      let H = (accepted_means d e s h).2 in
      let answer = forward.accepts (suc d) block t H.size whole H.range in
      (answer, jobs.accepted_leaves (forward_job (suc d) block t) (rw answer tt) ∙ elements_are H)
