-- `range_of_block` meets its contract: the loop keeps the lowest and the highest value so far.
use lib.Signed.{lt_z}
use Rattle.sheet_range.proofs.Extremes.{BlockExtreme}
use Rattle.sheet_range.proofs.range_of_block.Given as goal

abbrev pub invariant-loop-i : goal.invariant-loop-i
invariant-loop-i l = BlockExtreme lt_z l.words l.a l.i l.lowest × BlockExtreme (λ y z. lt_z z y) l.words l.a l.i l.highest
