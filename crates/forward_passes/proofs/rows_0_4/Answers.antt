-- `rows_0_4` meets its contract: two steps, one after the other.
use Rattle.integers.specs.Kit.{lit<}
use Rattle.dct.specs.Rows.{fours}
use Rattle.forward_passes.proofs.Blocks.{spanned, asked_across, stepped_across}
use Rattle.forward_passes.proofs.Stores.{one-row, both}
use Rattle.forward_passes.proofs.rows_0_4.Goals as goal

pub fours_step-requires : goal.fours_step-requires
fours_step-requires c =
    let all = asked_across c.requires 0 (lit< tt) c.across.ensures 0 fours spanned.0 in
    record { room = all.0; only_components = all.1 }

pub fours_step-requires-2 : goal.fours_step-requires-2
fours_step-requires-2 c =
    let all = asked_across c.requires 4 (lit< tt) c.across-2.ensures 0 fours spanned.1 in
    record { room = all.0; only_components = all.1 }

pub returns : goal.returns
returns c =
    let X = c.requires in
    both
    (one-row (stepped_across X 0 (lit< tt) c.across.ensures c.fours_step.ensures) c.store_row.ensures)
    (one-row (stepped_across X 4 (lit< tt) c.across-2.ensures c.fours_step-2.ensures) c.store_row-2.ensures)
