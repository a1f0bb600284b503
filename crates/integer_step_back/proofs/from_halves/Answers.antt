-- `from_halves` meets its contract: the sums and the differences of what the halves give.
use Rattle.integers.specs.Kit.{lit<}
use Rattle.integer_step_back.proofs.Halves.{room_back, row_back}
use Rattle.integer_step_back.proofs.from_halves.Goals as goal

pub differences-d-requires : goal.differences-d-requires
differences-d-requires c = record {
  room = room_back 0 (lit< tt) c.requires.room c.half_back-e.ensures;
  room_2 = room_back 1 (lit< tt) c.requires.room_2 c.half_back-o.ensures;
}

pub add_each-s-requires : goal.add_each-s-requires
add_each-s-requires c = (lit< tt, (room_back 0 (lit< tt) c.requires.room c.half_back-e.ensures, room_back 1 (lit< tt) c.requires.room_2 c.half_back-o.ensures))

pub returns : goal.returns
returns c = row_back _ _ c.half_back-e.ensures c.half_back-o.ensures c.add_each-s.ensures c.differences-d.ensures
