-- `check` meets its contract: each check refuses by its cause, or leaves it to the next.
use Rattle.std.specs.Prelude.{◌≡◌}
use Rattle.integers.specs.Kit.{◌∙◌, length}
use borrow.Author.Rules.{rules}
use Rattle.limits.specs.Limits.{components_size}
use Rattle.answers.specs.Answer.{accept_with, refused, returned_with}
use Rattle.coefficients.specs.declared.Width.{Width}
use Rattle.coefficients.proofs.Widths.{read_width}
use Rattle.sheet_checks.specs.Check.{sample_format}
use Rattle.sheet_checks.proofs.Causes.{shaped}
use Rattle.sheet.proofs.Exits.{accepted, no_room, no_width, wrong_scratch, wrong_shape, wrong_words}
use Rattle.sheet.proofs.check.Goals as goal

pub returns-in_default-clause-answer_value : goal.returns-in_default-clause-answer_value
returns-in_default-clause-answer_value c =
    let args = c.args in no_width components_size args.words.now args.b args.scratch args.output (accept_with (length args.words.now)) c.in_default.ensures

pub returns-in_err-check_shape-clause-answer_value : goal.returns-in_err-check_shape-clause-answer_value
returns-in_err-check_shape-clause-answer_value c =
    let args = c.args in
    let passed : returned_with (λ (w : Width). length args.words.now) c.from_residual.result ≡ refused c.in_err-check_shape.field-0.0 = search rules in
    let is = read_width c.in-Ok.width c.in-Ok.ensures in
    passed ∙ wrong_shape components_size args.words.now args.b args.scratch args.output (accept_with (length args.words.now)) is _ _ c.in_err-check_shape.ensures

pub returns-in_err-sized-clause-answer_value : goal.returns-in_err-sized-clause-answer_value
returns-in_err-sized-clause-answer_value c =
    let args = c.args in
    let passed : returned_with (λ (w : Width). length args.words.now) c.from_residual-in_err-sized.result ≡ refused c.in_err-sized.field-0.0 = search rules in
    let is = read_width c.in-Ok.width c.in-Ok.ensures in
    passed ∙ wrong_scratch components_size args.words.now args.b args.scratch args.output (accept_with (length args.words.now)) is _ _ c.in_ok-check_shape.ensures _ c.in_err-sized.ensures

pub returns-then-output-words-clause-answer_value : goal.returns-then-output-words-clause-answer_value
returns-then-output-words-clause-answer_value c =
    let args = c.args in
    let is = read_width c.in-Ok.width c.in-Ok.ensures in
    no_room components_size args.words.now args.b args.scratch args.output (accept_with (length args.words.now)) is
    _ _ c.in_ok-check_shape.ensures c.in_ok-sized.ensures c.if-output-words.true

pub check_words-requires : goal.check_words-requires
check_words-requires c = shaped sample_format c.args.words.now _ _ c.in_ok-check_shape.ensures

pub returns-in_err-check_words-clause-answer_value : goal.returns-in_err-check_words-clause-answer_value
returns-in_err-check_words-clause-answer_value c =
    let args = c.args in
    let passed : returned_with (λ (w : Width). length args.words.now) c.from_residual-in_err-check_words.result ≡ refused c.in_err-check_words.field-0.0 = search rules in
    let is = read_width c.in-Ok.width c.in-Ok.ensures in
    passed ∙ wrong_words components_size args.words.now args.b args.scratch args.output (accept_with (length args.words.now)) is
    _ _ c.in_ok-check_shape.ensures c.in_ok-sized.ensures c.if-output-words.false _ _ c.in_err-check_words.ensures

pub returns-clause-answer_value : goal.returns-clause-answer_value
returns-clause-answer_value c =
    let args = c.args in
    let is = read_width c.in-Ok.width c.in-Ok.ensures in
    accepted components_size args.words.now args.b args.scratch args.output (accept_with (length args.words.now)) is
    _ _ c.in_ok-check_shape.ensures c.in_ok-sized.ensures c.if-output-words.false _ _ c.in_ok-check_words.ensures
