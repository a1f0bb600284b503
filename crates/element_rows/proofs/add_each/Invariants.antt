-- `add_each` meets its contract: the loop adds element by element.
use Rattle.std.specs.Prelude.{◌≡◌}
use Rattle.integers.specs.Kit.{[]}
use Rattle.integers.proofs.Tables.{Each}
use Rattle.ring.specs.Element.{add}
use Rattle.elements.specs.Buffer.{item}
use Rattle.element_rows.proofs.add_each.Given as goal

abbrev pub invariant-loop-n : goal.invariant-loop-n
invariant-loop-n g l = Each (record { components = [] }) g.row.N (λ n e. e.components ≡ add (item l.x n) (item l.y n)) l.n l.r
