-- `restore_column` meets its contract: what stands at one place of the rows, summed, divided and stored.
use Rattle.std.specs.Prelude.{◌/◌, ◌<◌}
use Rattle.integers.specs.Kit.{ap, ◌∙◌}
use native.Mathlib.Omega.{arith}
use lib.Signed.{shr_z}
use Rattle.ring.specs.Element.{component}
use Rattle.dct.proofs.IntegerBack.{weighted_cong}
use Rattle.elements.specs.Buffer.{item, row}
use Rattle.element_rows.proofs.Rooms.{row_room}
use Rattle.back_passes.specs.Passes.{numbers}
use Rattle.back_passes.proofs.Columns.{room-weighted}
use Rattle.back_passes.proofs.restore_column.Goals as goal

pub store_column-requires-clause-room : goal.store_column-requires-clause-room
store_column-requires-clause-room c =
    let room = row_room c.across.ensures (λ k h. (c.requires.numbers.rooms k h).small _ c.requires.j_bound) in
    room-weighted room c.column_back.ensures

pub returns : goal.returns
returns c =
    let S = c.store_column.ensures in
    record {
      size = S.size;
      here = λ n b q.
          let few : n < 64 = rw c.told-block at b in
          S.here n b q
          ∙ ap (λ z. shr_z z 128) (ap (λ a. component a 0) (c.column_back.ensures.at (n / 8) (omega arith))
          ∙ weighted_cong (numbers c.across.result) (λ k. component (item (row c.args.x k) c.args.j) 0) (n / 8)
          (λ k h. ap (λ a. component a 0) (c.across.ensures.at k h)));
      others = S.others;
    }
