-- `half_at` meets its contract: the angles of the frequency, and their combination.
use Rattle.integers.specs.Kit.{◌∙◌}
use Rattle.elements.specs.Buffer.{item}
use Rattle.integer_step.proofs.Halves.{angles_half}
use Rattle.integer_step.proofs.half_at.Goals as goal

pub returns : goal.returns
returns g c = c.combination.ensures ∙ angles_half g.row.P (item c.args.r) c.args.i c.requires.parity c.requires.i_bound
