-- `check_sheet` meets its contract: the shape decides, and past it the words do.
use Rattle.std.specs.Prelude.{◌≡◌}
use Rattle.integers.specs.Kit.{◌∙◌}
use borrow.Author.Rules.{rules}
use Rattle.answers.specs.Answer.{refused, returned_with}
use Rattle.sheet_checks.proofs.Causes.{shape_refused, shaped, words_decide}
use Rattle.sheet_checks.proofs.check_sheet.Goals as goal

pub returns-in_err-check_shape : goal.returns-in_err-check_shape
returns-in_err-check_shape c =
    let passed : returned_with (λ n. n) c.from_residual.result ≡ refused c.in_err-check_shape.field-0.0 = search rules in
    passed ∙ shape_refused c.args.f c.args.sheet.now _ _ _ c.in_err-check_shape.ensures

pub check_words-requires : goal.check_words-requires
check_words-requires c = shaped c.args.f c.args.sheet.now _ _ c.in_ok-check_shape.ensures

pub returns : goal.returns
returns c = words_decide c.args.f c.args.sheet.now _ _ c.in_ok-check_shape.ensures _ c.check_words.ensures
