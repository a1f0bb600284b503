-- `body_faulty` meets its contract: its tests are those of the definition.
use Rattle.integers.specs.Kit.{sym, ◌∙◌}
use borrow.Author.Rules.{rules}
use borrow.Author.Tests.{ne_eqb}
use Rattle.sheet_checks.proofs.Faults.{other_kind, read_asked}
use Rattle.sheet_checks.proofs.body_faulty.Goals as goal

pub returns-then-kind_number-f : goal.returns-then-kind_number-f
returns-then-kind_number-f c =
    let other = other_kind c.args.f c.args.w (λ e. c.if-kind_number-f.true (c.kind_number.ensures ∙ e)) in
    rw (ne_eqb _ _ c.if-kind_number-f.true) (sym other.0)

pub returns-else-kind_number-f : goal.returns-else-kind_number-f
returns-else-kind_number-f c =
    read_asked c.args.f c.args.w (sym c.kind_number.ensures ∙ c.if-kind_number-f.false) c.value.ensures (search rules) c.excludes.ensures
