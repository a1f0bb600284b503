-- A job: what decides its answer, and what it leaves, for any numbers and any buffers (01, "What each contract has to say"). Every public job is one of
-- these; `answers/Jobs` has the laws that hold of each.
use Rattle.std.specs.Prelude.{◌≡◌}
use Rattle.integers.specs.Kit.{cond, false, List, T}
use Rattle.answers.specs.Answer.{Returned, Cause, answered, accepted}

-- a job on given numbers and buffers. An A is what it leaves: the content of the buffer that it writes, or of several, and what it gives beside its answer
pub record Job (A : Type 0) : Type 0 where
  -- the causes of a refusal, in the order in which they are asked for
  pub causes : List Cause
  -- what is returned where none holds
  pub end : Returned
  -- what an accepted call leaves
  pub result : A
  -- what a refused call leaves: what was there, and 0 or plus zero for what stands beside an answer
  pub was : A

module _ {A : Type 0} where
  -- what a call returns
  abbrev pub job_returned : Job A → Returned
  job_returned j = answered j.causes j.end

  -- what it leaves: its result if it is accepted, and otherwise what a refused call does
  unfoldable pub job_left : Job A → A
  job_left j = cond (accepted (job_returned j)) j.result j.was

  -- it is accepted
  abbrev pub Accepts : Job A → Type 0
  Accepts j = T (accepted (job_returned j))

  -- it is refused
  abbrev pub Refuses : Job A → Type 0
  Refuses j = accepted (job_returned j) ≡ false
