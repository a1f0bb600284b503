-- `even` meets its contract: a half of the sums.
use Rattle.integer_step.proofs.Halves.{from_sums}
use Rattle.integer_step.proofs.even.Goals as goal

pub returns : goal.returns
returns c = from_sums c.args.x c.sums.ensures.row c.half.ensures
