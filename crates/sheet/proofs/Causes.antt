-- The causes of a refusal of a sheet: which calls are accepted, and which word a refusal names.
use Rattle.std.specs.Prelude.{◌≡◌, ◌∷◌, ◌≤◌}
use Rattle.integers.specs.Kit.{List, [], ℕ, T, leb, lit<, ℤ, length}
use lib.Dec.{eqb→eq, leb→le}
use borrow.Author.Tests.{le-leb}
use Rattle.answers.specs.Answer.{Each, Numbered, Passes, passes, accept_with}
use Rattle.answers.specs.Job.{job_returned, Accepts, Refuses}
use Rattle.answers.proofs.Causes.{passed_before, right_length, some_reason}
use Rattle.answers.proofs.Jobs as jobs
use Rattle.coefficients.specs.Tables.{width}
use Rattle.sheet_checks.specs.Check.{sample_format, shape, contents}
use Rattle.sheet_checks.specs.Sheets.{ValidShape, ValidSheet, WordFault}
use Rattle.sheet_checks.proofs.Faults.{cause_named}
use Rattle.sheet_checks.proofs.Sheets.{valid_shape, shape_passes, contents_pass, valid_sheet, refused-word}
use Rattle.sheet_blocks.specs.Blocks.{Scratch}
use Rattle.sheet_blocks.specs.Preconditions.{Checked}
use Rattle.sheet.specs.Sheet.{sheet_causes, sheet_job}

-- the output has room for n words
pub roomy : {n o : ℕ} → n ≤ o → T (leb n o)
roomy {n} {o} h = rw (le-leb n o h) tt

-- none of the causes holds

pub numbered : (size : ℕ) (words : List ℕ) (b s o : ℕ) → Each Numbered (sheet_causes size words b s o)
numbered size words b s o = (lit< tt, (lit< tt, (lit< tt, (lit< tt, (lit< tt, ((λ i t. cause_named sample_format words i), tt))))))

pub passes_checked : (K : Scratch) (words : List ℕ) (b s o : ℕ) → Each Passes (sheet_causes K.size words b s o) → Checked K words b s o
passes_checked K words b s o (w, (h, (c, (t, (l, (none, done)))))) = record {
  at_width = w;
  right = valid_sheet sample_format words (valid_shape sample_format words h c) none;
  scratch_size = eqb→eq s K.size t;
  output_size = leb→le (length words) o l;
}

-- a call is accepted exactly when b is a width, the words are a sample sheet as 01 describes it, and the buffers have room

module _ (K : Scratch) (words : List ℕ) (b : ℕ) (scratch : List ℤ) (output : List ℕ) where
  pub accepts : T (width b) → ValidSheet sample_format words → length scratch ≡ K.size → length words ≤ length output
      → job_returned (sheet_job K words b scratch output) ≡ accept_with (length words)
  accepts w S e l =
      let (h, more) = shape_passes sample_format words S.valid_shape in
      jobs.accepts (sheet_job K words b scratch output) (w, (h, (more.0, (right_length e, (roomy l, (contents_pass sample_format words S, tt))))))

  -- where all else is right, a refusal names the first faulty word, and its fault
  pub word_fault : T (width b) → ValidShape sample_format words → length scratch ≡ K.size → length words ≤ length output → Refuses (sheet_job K words b scratch output)
      → WordFault sample_format words (job_returned (sheet_job K words b scratch output))
  word_fault w S e l x =
      let R = some_reason (contents sample_format words ∷ []) (accept_with (length words)) in
      let answer = jobs.only_reason (sheet_job K words b scratch output) (passes w (passed_before (shape sample_format words) (shape_passes sample_format words S)
      (passes (right_length e) (passes (roomy l) R)))) in
      rw answer at (refused-word sample_format words R (rw answer x))

  pub accepted_checked : Accepts (sheet_job K words b scratch output) → Checked K words b (length scratch) (length output)
  accepted_checked a =
      passes_checked K words b (length scratch) (length output)
      (jobs.accepted_means (sheet_job K words b scratch output) (numbered K.size words b (length scratch) (length output)) a)
