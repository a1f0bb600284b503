-- Which calls of `sheet_range` are accepted: those with a coefficient sheet as 02 describes it.
use Rattle.std.specs.Prelude.{◌≡◌}
use Rattle.integers.specs.Kit.{List, [], ℕ, lit<, length}
use Rattle.answers.specs.declared.Refusal.{Refusal}
use Rattle.answers.specs.Answer.{accept, accept_with, answered, refused}
use Rattle.answers.specs.Job.{job_returned, Accepts, Refuses}
use Rattle.answers.proofs.Causes.{accepted_first, no_more, refused_first}
use Rattle.answers.proofs.Jobs as jobs
use Rattle.sheet_checks.specs.Check.{check_causes, coefficient_format}
use Rattle.sheet_checks.specs.Sheets.{ValidShape, ValidSheet, WordFault}
use Rattle.sheet_checks.proofs.Causes as checks
use Rattle.sheet_checks.proofs.Faults.{cause_named}
use Rattle.sheet_range.specs.SheetRange.{range_job}

module _ (words : List ℕ) where
  pub accepts : ValidSheet coefficient_format words → job_returned (range_job words) ≡ accept
  accepts S = jobs.accepts (range_job words) (checks.sheet_passes coefficient_format words S)

  pub accepted_means : Accepts (range_job words) → ValidSheet coefficient_format words
  accepted_means = checks.valid_sheet coefficient_format words accept

  -- where the shape is right, a refusal names the first faulty word, and its fault
  pub word_fault : ValidShape coefficient_format words → Refuses (range_job words) → WordFault coefficient_format words (job_returned (range_job words))
  word_fault S h = checks.refused_by_word coefficient_format words S tt (jobs.reason (range_job words)) h

  -- what `check_sheet` answers: its refusals are the job's, and where it accepts, so does the job

  pub refusal : (e : Refusal) → refused e ≡ answered (check_causes coefficient_format words) (accept_with (length words)) → refused e ≡ job_returned (range_job words)
  refusal e h = refused_first (check_causes coefficient_format words) [] accept e (length words) h

  pub acceptance : (n : ℕ) → accept_with n ≡ answered (check_causes coefficient_format words) (accept_with (length words)) → accept ≡ job_returned (range_job words)
  acceptance n h =
      accepted_first (check_causes coefficient_format words) [] accept accept (lit< tt, (lit< tt, ((λ i t. cause_named coefficient_format words i), tt)))
      n (length words) h (no_more accept)
