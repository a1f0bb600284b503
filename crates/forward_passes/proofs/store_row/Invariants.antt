-- `store_row` meets its contract: the loop stores element after element.
use Rattle.forward_passes.proofs.Stores.{RowBegun}
use Rattle.forward_passes.proofs.store_row.Given as goal

abbrev pub invariant-loop-v : goal.invariant-loop-v
invariant-loop-v l = RowBegun l.e l.u l.initial.elements l.v l.elements
