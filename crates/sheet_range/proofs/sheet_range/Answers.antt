-- `sheet_range` meets its contract: the check decides, and past it the range is that of the sheet.
use Rattle.std.specs.Prelude.{◌≡◌}
use Rattle.integers.specs.Kit.{◌∙◌, List, ℕ}
use borrow.Author.Rules.{rules}
use Rattle.answers.specs.Answer.{returned}
use Rattle.answers.specs.Answer as answers
use Rattle.answers.proofs.Jobs.{done, is_accepted, refused}
use Rattle.sheet_range.specs.declared.Range.{Range}
use Rattle.sheet_range.specs.SheetRange.{highest_float, lowest_float, no_range, range_given, range_job}
use Rattle.sheet_range.proofs.Causes.{acceptance, accepted_means, refusal}
use Rattle.sheet_range.proofs.sheet_range.Goals as goal

-- a range by its ends
pair : (words : List ℕ) (r : Range) → r.lowest ≡ lowest_float words → r.highest ≡ highest_float words → r ≡ (range_job words).result
pair words r e f = rw (← e, ← f)

pub returns-in_err-check_sheet-clause-answer_value : goal.returns-in_err-check_sheet-clause-answer_value
returns-in_err-check_sheet-clause-answer_value c =
    let passed : returned c.from_residual.result ≡ answers.refused c.in_err-check_sheet.field-0.0 = search rules in
    passed ∙ refusal c.args.words.now _ c.in_err-check_sheet.ensures

pub returns-in_err-check_sheet-clause-range_value : goal.returns-in_err-check_sheet-clause-range_value
returns-in_err-check_sheet-clause-range_value c =
    let none : range_given c.from_residual.result ≡ no_range = search rules in
    none ∙ refused (range_job c.args.words.now) _ (refusal c.args.words.now _ c.in_err-check_sheet.ensures)

pub range_of_sheet-requires : goal.range_of_sheet-requires
range_of_sheet-requires c = accepted_means c.args.words.now (is_accepted (range_job c.args.words.now) _ (acceptance c.args.words.now _ c.in_ok-check_sheet.ensures))

pub returns-clause-answer_value : goal.returns-clause-answer_value
returns-clause-answer_value c = acceptance c.args.words.now _ c.in_ok-check_sheet.ensures

pub returns-clause-range_value : goal.returns-clause-range_value
returns-clause-range_value c =
    let made = c.range_of_sheet.ensures in
    done (range_job c.args.words.now) _ (acceptance c.args.words.now _ c.in_ok-check_sheet.ensures) (pair c.args.words.now c.range_of_sheet.result made.lowest_value made.highest_value)
