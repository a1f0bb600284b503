-- `add` meets its contract: the loop fills the sum's components one by one, and each sum of two fits.
use Rattle.integers.specs.Kit.{sym, ◌∙◌}
use native.Mathlib.Omega.{arith}
use borrow.Author.Rules.{rules}
use Rattle.integers.proofs.Tables.{filled_all}
use Rattle.ring.specs.Element.{Eight}
use Rattle.elements.proofs.Componentwise.{add-table}
use Rattle.elements.proofs.add.Goals as goal

pub returns : goal.returns
returns c =
    let args = c.args in
    let p : Eight args.a.components = record { eight = search rules } in
    let q : Eight args.b.components = record { eight = search rules } in
    filled_all (omega arith) c.loop-i.invariant ∙ sym (add-table p q)
