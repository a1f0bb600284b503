-- `sheet` meets its contract: the check decides, and past it the sheet is converted.
use Rattle.std.specs.Prelude.{◌≡◌}
use Rattle.integers.specs.Kit.{refl, ap, ◌∙◌, List, ℕ, ℤ}
use borrow.Author.Rules.{rules}
use Rattle.answers.specs.Job.{Job}
use Rattle.answers.proofs.Jobs.{done, is_accepted, refused}
use Rattle.sheet_checks.specs.Check.{blocks}
use Rattle.sheet_blocks.specs.declared.Totals.{Totals}
use Rattle.sheet_blocks.specs.Blocks.{element_scratch, coefficient_sheet}
use Rattle.sheet_blocks.specs.Sums.{Agree, no_totals, sheet_totals}
use Rattle.sheet.specs.Sheet.{Left, sheet_job, totals_given}
use Rattle.sheet.proofs.Causes.{accepted_checked}
use Rattle.sheet.proofs.sheet.Goals as goal

-- both sums of a sheet
totals_are : (b : ℕ) {words : List ℕ} {t : Totals} → Agree words (coefficient_sheet b words) (blocks words) t → t ≡ sheet_totals b words
totals_are b A = rw (← A.of_samples, ← A.of_firsts)

-- what is left, by its parts
left_is : {s t : List ℤ} {o p : List ℕ} {u v : Totals} → s ≡ t → o ≡ p → u ≡ v
    → ◌≡◌ {A = Left} (record { scratch = s; output = o; totals = u }) (record { scratch = t; output = p; totals = v })
left_is e f g = rw (e, f, g)

-- what a call leaves
abbrev job : List ℕ → ℕ → List ℤ → List ℕ → Job Left
job = sheet_job element_scratch

pub returns-in_err-width-clause-totals_value : goal.returns-in_err-width-clause-totals_value
returns-in_err-width-clause-totals_value c =
    let left = refused (job c.args.words.now c.args.b c.args.scratch.now c.args.output.now) _ c.in_err-width.ensures.answer_value in
    let none : totals_given c.from_residual.result ≡ no_totals = search rules in
    none ∙ ap (λ (l : Left). l.totals) left

pub returns-in_err-width-clause-scratch_after : goal.returns-in_err-width-clause-scratch_after
returns-in_err-width-clause-scratch_after c =
    ap (λ (l : Left). l.scratch) (refused (job c.args.words.now c.args.b c.args.scratch.now c.args.output.now) _ c.in_err-width.ensures.answer_value)

pub returns-in_err-width-clause-output_after : goal.returns-in_err-width-clause-output_after
returns-in_err-width-clause-output_after c =
    ap (λ (l : Left). l.output) (refused (job c.args.words.now c.args.b c.args.scratch.now c.args.output.now) _ c.in_err-width.ensures.answer_value)

pub convert-totals-requires : goal.convert-totals-requires
convert-totals-requires c =
    let args = c.args in
    rw c.in_ok-width.ensures.width_value (accepted_checked element_scratch args.words.now args.b args.scratch.now args.output.now
    (is_accepted (job args.words.now args.b args.scratch.now args.output.now) _ c.in_ok-width.ensures.answer_value))

pub returns : goal.returns
returns c =
    let made = rw c.in_ok-width.ensures.width_value at c.convert-totals.ensures in
    let left = done (job c.args.words.now c.args.b c.args.scratch.now c.args.output.now) _ c.in_ok-width.ensures.answer_value
    (left_is made.scratch_after made.output_after (totals_are c.args.b made.agree)) in
    record {
      answer_value = search rules;
      totals_value = ap (λ (l : Left). l.totals) left;
      scratch_after = ap (λ (l : Left). l.scratch) left;
      output_after = ap (λ (l : Left). l.output) left;
      words_kept = refl;
    }
