-- `sum` meets its contract: the loop adds one sample after the other.
use Rattle.sheet_blocks.proofs.Sums.{Adding}
use Rattle.sheet_blocks.proofs.sum.Given as goal

abbrev pub invariant-loop-x : goal.invariant-loop-x
invariant-loop-x l = Adding l.samples l.x-index l.total
