-- `odd_rows` meets its contract: a step, and three conjugates, each of the row before it.
use Rattle.integers.specs.Kit.{refl, lit<}
use Rattle.dct.specs.Rows.{odds}
use Rattle.forward_passes.proofs.Blocks.{spanned, asked_across, stepped_across, room_stepped, conjugated}
use Rattle.forward_passes.proofs.Stores.{one-row, both}
use Rattle.forward_passes.proofs.odd_rows.Goals as goal

pub odds_step-e1-requires : goal.odds_step-e1-requires
odds_step-e1-requires c =
    let all = asked_across c.requires 1 (lit< tt) c.across.ensures 3 odds spanned.3 in
    record { room = all.0; only_components = all.1 }

pub conjugate_row-e5-requires : goal.conjugate_row-e5-requires
conjugate_row-e5-requires c =
    let row_1 = stepped_across c.requires 1 (lit< tt) c.across.ensures c.odds_step-e1.ensures in
    room_stepped c.requires 1 (lit< tt) row_1

pub conjugate_row-e7-requires : goal.conjugate_row-e7-requires
conjugate_row-e7-requires c =
    let row_1 = stepped_across c.requires 1 (lit< tt) c.across.ensures c.odds_step-e1.ensures in
    let row_5 = conjugated c.requires 5 (lit< tt) refl row_1 c.conjugate_row-e5.ensures in
    room_stepped c.requires 5 (lit< tt) row_5

pub conjugate_row-e3-requires : goal.conjugate_row-e3-requires
conjugate_row-e3-requires c =
    let row_1 = stepped_across c.requires 1 (lit< tt) c.across.ensures c.odds_step-e1.ensures in
    let row_5 = conjugated c.requires 5 (lit< tt) refl row_1 c.conjugate_row-e5.ensures in
    let row_7 = conjugated c.requires 7 (lit< tt) refl row_5 c.conjugate_row-e7.ensures in
    room_stepped c.requires 7 (lit< tt) row_7

pub returns : goal.returns
returns c =
    let row_1 = stepped_across c.requires 1 (lit< tt) c.across.ensures c.odds_step-e1.ensures in
    let row_5 = conjugated c.requires 5 (lit< tt) refl row_1 c.conjugate_row-e5.ensures in
    let row_7 = conjugated c.requires 7 (lit< tt) refl row_5 c.conjugate_row-e7.ensures in
    let row_3 = conjugated c.requires 3 (lit< tt) refl row_7 c.conjugate_row-e3.ensures in
    both (both (one-row row_1 c.store_row.ensures) (one-row row_5 c.store_row-2.ensures))
    (both (one-row row_7 c.store_row-3.ensures) (one-row row_3 c.store_row-4.ensures))
