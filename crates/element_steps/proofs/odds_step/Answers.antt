-- `odds_step` meets its contract: both halves.
use Rattle.dct.specs.Transform.{step}
use Rattle.elements.specs.Buffer.{item}
use Rattle.element_steps.proofs.Sums.{joined_halves}
use Rattle.element_steps.proofs.odds_step.Goals as goal

pub returns : goal.returns
returns c = joined_halves (step (item c.args.x)) (c.join.ensures.row, c.join.ensures.row_2) c.odds_half.ensures c.odds_half-2.ensures
