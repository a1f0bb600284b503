-- `sums` meets its contract: four sums, with a bit more.
use Rattle.element_rows.proofs.Rooms.{row_4}
use Rattle.integer_step.proofs.Halves.{room-sums}
use Rattle.integer_step.proofs.sums.Goals as goal

pub returns-clause-room : goal.returns-clause-room
returns-clause-room c = (room-sums c.requires (row_4 c.add.ensures c.add-2.ensures c.add-3.ensures c.add-4.ensures)).1
