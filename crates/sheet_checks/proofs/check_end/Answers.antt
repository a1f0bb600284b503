-- `check_end` meets its contract: kind before payload.
use Rattle.integers.specs.Kit.{sym, ◌∙◌}
use borrow.Author.Tests.{eq-eqb, ne_eqb}
use Rattle.sheet_checks.specs.Check.{end_cause, end_faulty}
use Rattle.sheet_checks.proofs.check_end.Goals as goal

pub returns-then-not-has_kind : goal.returns-then-not-has_kind
unfolding end_cause end_faulty
returns-then-not-has_kind c = rw (sym c.has_kind.ensures ∙ c.if-not-has_kind.true)

pub returns-then-payload-n : goal.returns-then-payload-n
unfolding end_cause end_faulty
returns-then-payload-n c = rw (sym c.has_kind.ensures ∙ c.if-not-has_kind.false, ← c.payload.ensures, ne_eqb _ _ c.if-payload-n.true)

pub returns : goal.returns
unfolding end_faulty
returns c = rw (sym c.has_kind.ensures ∙ c.if-not-has_kind.false, ← c.payload.ensures, eq-eqb _ _ c.if-payload-n.false)
