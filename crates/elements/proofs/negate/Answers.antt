-- `negate` meets its contract: the loop fills the negative components one by one.
use Rattle.integers.specs.Kit.{sym, ◌∙◌}
use native.Mathlib.Omega.{arith}
use borrow.Author.Rules.{rules}
use Rattle.integers.proofs.Tables.{filled_all}
use Rattle.ring.specs.Element.{Eight}
use Rattle.elements.proofs.Componentwise.{negate-table}
use Rattle.elements.proofs.negate.Goals as goal

pub returns : goal.returns
returns c =
    let p : Eight c.args.a.components = record { eight = search rules } in
    filled_all (omega arith) c.loop-i.invariant ∙ sym (negate-table p)
