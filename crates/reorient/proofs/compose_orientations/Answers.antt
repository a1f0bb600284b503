-- The first number that is none refuses; of two orientations the table has the one.
use Rattle.std.specs.Prelude.{◌≡◌}
use Rattle.integers.specs.Kit.{sym, ap, ◌∙◌}
use borrow.Author.Rules.{rules}
use Rattle.answers.specs.Answer.{accept_with, fails, holds, passes, returned_with}
use Rattle.answers.proofs.Causes.{only_reason}
use Rattle.reorient.proofs.Acceptance.{known, composes}
use Rattle.reorient.proofs.compose_orientations.Goals as goal

pub returns-in_err-row : goal.returns-in_err-row
returns-in_err-row c =
    let passed : returned_with (λ n. n) c.from_residual.result ≡ record { number = 9; place = 0 } = search rules in
    passed ∙ only_reason (holds (fails c.in_err-row.ensures.1))

pub returns-in_err-column : goal.returns-in_err-column
returns-in_err-column c =
    let passed : returned_with (λ n. n) c.from_residual-in_err-column.result ≡ record { number = 9; place = 0 } = search rules in
    passed ∙ only_reason (passes (known _ (rw c.in_ok-row.ensures at c.in_ok-row.row.known)) (holds (fails c.in_err-column.ensures.1)))

pub returns : goal.returns
returns c =
    let row = rw c.in_ok-row.ensures at c.in_ok-row.row.known in
    let column = rw c.in_ok-column.ensures at c.in_ok-column.column.known in
    ap accept_with (rw (c.in_ok-row.ensures, c.in_ok-column.ensures) at c.composed.ensures) ∙ sym (composes _ _ row column)
