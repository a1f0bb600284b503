-- The laws of every job: a call has a reason, and no other answer has one; it is accepted exactly when no cause holds; and what it leaves.
use Rattle.std.specs.Prelude.{◌≡◌}
use Rattle.integers.specs.Kit.{sym, ◌∙◌, Bool, true, false, cond, ℕ}
use Rattle.integers.proofs.Tests.{holds}
use Rattle.answers.specs.declared.Refusal.{Refusal}
use Rattle.answers.specs.Answer.{Returned, Reason, Each, Passes, Numbered, accept_with, accepted}
use Rattle.answers.specs.Answer as answers
use Rattle.answers.specs.Job.{Job, job_returned, job_left, Accepts, Refuses}
use Rattle.answers.proofs.Causes as causes

module _ {A : Type 0} (j : Job A) where
  pub reason : Reason j.end j.causes (job_returned j)
  reason = causes.some_reason j.causes j.end

  pub only_reason : {r : Returned} → Reason j.end j.causes r → r ≡ job_returned j
  only_reason = causes.only_reason

  pub accepts : Each Passes j.causes → job_returned j ≡ j.end
  accepts = causes.accepts j.causes j.end

  pub accepted_means : Each Numbered j.causes → Accepts j → Each Passes j.causes
  accepted_means = causes.accepted_means j.causes j.end

  pub accepted_leaves : Accepts j → job_left j ≡ j.result
  unfolding job_left
  accepted_leaves h = rw (holds (accepted (job_returned j)) h)

  pub refused_leaves : Refuses j → job_left j ≡ j.was
  unfolding job_left
  refused_leaves h = rw h

  -- a job in code: where its check refuses, it leaves what a refused call does; and where it accepts, its result

  pub refused : (e : Refusal) → answers.refused e ≡ job_returned j → j.was ≡ job_left j
  refused e h = sym (refused_leaves (rw (← h) (causes.not_accepted e)))

  module _ (n : ℕ) (h : accept_with n ≡ job_returned j) where
    pub is_accepted : Accepts j
    is_accepted = rw (← h) tt

    pub done : {left : A} → left ≡ j.result → left ≡ job_left j
    done g = g ∙ sym (accepted_leaves is_accepted)

-- two jobs that return the same: what the one leaves is f of what the other does, where that holds of both their results and of what was there
pub same_left : {A B : Type 0} (f : A → B) (j : Job A) (k : Job B) → job_returned k ≡ job_returned j → f j.result ≡ k.result → f j.was ≡ k.was
    → f (job_left j) ≡ job_left k
unfolding job_left
same_left f j k e p q = rw e (go (accepted (job_returned j)))
  where
    go : (t : Bool) → f (cond t j.result j.was) ≡ cond t k.result k.was
    go true = p
    go false = q
