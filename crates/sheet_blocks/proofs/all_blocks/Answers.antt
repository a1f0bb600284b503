-- `all_blocks` meets its contract: the loop does one block after the other.
use native.Mathlib.Omega.{arith}
use Rattle.sheet_blocks.proofs.Loop.{reached_none, reached_more}
use Rattle.sheet_blocks.proofs.all_blocks.Goals as goal

pub loop-k-init : goal.loop-k-init
loop-k-init c = let none = c.default-totals.ensures in reached_none c.requires none.0 none.1

pub loop-k-preserved : goal.loop-k-preserved
loop-k-preserved c =
    let reached = c.loop-k.invariant in
    let made = c.next_block-totals.ensures in
    reached_more reached (omega (arith, reached.checked.right.valid_shape.count)) c.next_block-totals.auto.scratch c.next_block-totals.auto.output made.agree_2 made.scratch_after made.output_after
