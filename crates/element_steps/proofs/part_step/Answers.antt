-- `part_step` meets its contract: both halves of one part.
use Rattle.element_steps.specs.Class.{part_step}
use Rattle.element_steps.proofs.Sums.{joined_halves}
use Rattle.element_steps.proofs.part_step.Goals as goal

pub returns-clause-row : goal.returns-clause-row
returns-clause-row g c = joined_halves (part_step c.args.x g.row.K) (c.join.ensures.row, c.join.ensures.row_2) c.part_half.ensures.row c.part_half-2.ensures.row
