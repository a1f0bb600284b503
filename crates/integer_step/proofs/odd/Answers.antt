-- `odd` meets its contract: a half of the differences.
use Rattle.integer_step.proofs.Halves.{from_differences}
use Rattle.integer_step.proofs.odd.Goals as goal

pub returns : goal.returns
returns c = from_differences c.args.x c.differences.ensures.row c.half.ensures
