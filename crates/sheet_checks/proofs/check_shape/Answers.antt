-- `check_shape` meets its contract: each way out is a law of causes.
use Rattle.integers.specs.Kit.{◌∙◌}
use borrow.Author.Tests.{eq-eqb, ne_eqb}
use Rattle.answers.specs.Answer.{fails, holds, none_holds, passes}
use Rattle.answers.proofs.Causes.{only_reason}
use Rattle.sheet_checks.specs.Check.{shape}
use Rattle.sheet_checks.proofs.Heads.{a_head, head_means, no_head}
use Rattle.sheet_checks.proofs.check_shape.Goals as goal

pub returns-in_default : goal.returns-in_default
returns-in_default c = only_reason {l = shape c.args.f c.args.sheet.now} (holds (fails (no_head c.args.f.head c.args.sheet.now c.in_default.ensures)))

pub size_of-requires : goal.size_of-requires
size_of-requires c =
    let (head, counted) = a_head c.args.f.head c.args.sheet.now c.in-Some.ensures in
    let (_, _, _, _, few) = head_means c.args.f.head c.args.sheet.now head in
    rw counted few

pub returns-then-sheet-size_of : goal.returns-then-sheet-size_of
returns-then-sheet-size_of c =
    let (head, counted) = a_head c.args.f.head c.args.sheet.now c.in-Some.ensures in
    let size = rw counted at (c.if-sheet-size_of.true ∙ c.size_of.ensures) in
    only_reason {l = shape c.args.f c.args.sheet.now} (passes head (passes (rw (eq-eqb _ _ size) tt) none_holds))

pub returns-else-sheet-size_of : goal.returns-else-sheet-size_of
returns-else-sheet-size_of c =
    let (head, counted) = a_head c.args.f.head c.args.sheet.now c.in-Some.ensures in
    only_reason {l = shape c.args.f c.args.sheet.now} (passes head (holds (fails (ne_eqb _ _ (λ e. c.if-sheet-size_of.false (rw (c.size_of.ensures, counted) e))))))
