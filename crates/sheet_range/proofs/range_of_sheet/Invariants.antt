-- `range_of_sheet` meets its contract: the loop keeps the range of the blocks so far.
use lib.Signed.{lt_z}
use Rattle.sheet_range.proofs.Extremes.{SheetExtreme}
use Rattle.sheet_range.proofs.range_of_sheet.Given as goal

abbrev pub invariant-loop-k : goal.invariant-loop-k
invariant-loop-k l = SheetExtreme lt_z l.words l.k l.r.lowest × SheetExtreme (λ y z. lt_z z y) l.words l.k l.r.highest
