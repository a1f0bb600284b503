-- `differences` meets its contract: four differences, with a bit more.
use Rattle.element_rows.proofs.Rooms.{row_4}
use Rattle.integer_step.proofs.Halves.{room-differences}
use Rattle.integer_step.proofs.differences.Goals as goal

pub returns-clause-room : goal.returns-clause-room
returns-clause-room c = (room-differences c.requires (row_4 c.subtract.ensures c.subtract-2.ensures c.subtract-3.ensures c.subtract-4.ensures)).1
