-- `body_refusal` meets its contract: kind before value.
use Rattle.integers.specs.Kit.{sym, ◌∙◌}
use borrow.Author.Tests.{eq-eqb, ne_eqb}
use Rattle.sheet_checks.specs.Check.{body_cause}
use Rattle.sheet_checks.proofs.body_refusal.Goals as goal

pub returns-then-kind_number-f : goal.returns-then-kind_number-f
unfolding body_cause
returns-then-kind_number-f c = rw (eq-eqb _ _ (sym c.kind_number.ensures ∙ c.if-kind_number-f.true)) c.out_of_range.ensures

pub returns-else-kind_number-f : goal.returns-else-kind_number-f
unfolding body_cause
returns-else-kind_number-f c = rw (ne_eqb _ _ (λ e. c.if-kind_number-f.false (c.kind_number.ensures ∙ e)))
