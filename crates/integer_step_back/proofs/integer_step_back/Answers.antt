-- `integer_step_back` meets its contract: the row in its two halves.
use Rattle.integer_step_back.proofs.Halves.{row_halves}
use Rattle.integer_step_back.proofs.integer_step_back.Goals as goal

pub returns : goal.returns
returns c = row_halves c.args.x c.from_halves.ensures
