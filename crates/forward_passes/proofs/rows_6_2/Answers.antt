-- `rows_6_2` meets its contract: a step, and its conjugate.
use Rattle.integers.specs.Kit.{refl, lit<}
use Rattle.dct.specs.Rows.{twos}
use Rattle.forward_passes.proofs.Blocks.{spanned, asked_across, stepped_across, room_stepped, conjugated}
use Rattle.forward_passes.proofs.Stores.{one-row, both}
use Rattle.forward_passes.proofs.rows_6_2.Goals as goal

pub twos_step-e6-requires : goal.twos_step-e6-requires
twos_step-e6-requires c =
    let all = asked_across c.requires 6 (lit< tt) c.across.ensures 1 twos spanned.2 in
    record { room = all.0; only_components = all.1 }

pub conjugate_row-requires : goal.conjugate_row-requires
conjugate_row-requires c =
    let row_6 = stepped_across c.requires 6 (lit< tt) c.across.ensures c.twos_step-e6.ensures in
    room_stepped c.requires 6 (lit< tt) row_6

pub returns : goal.returns
returns c =
    let row_6 = stepped_across c.requires 6 (lit< tt) c.across.ensures c.twos_step-e6.ensures in
    let E = conjugated c.requires 2 (lit< tt) refl row_6 c.conjugate_row.ensures in
    both (one-row row_6 c.store_row.ensures) (one-row E c.store_row-2.ensures)
