-- `half_at` meets its contract: the angles of the frequencies, and their combination.
use Rattle.integers.specs.Kit.{ap, ◌∙◌}
use Rattle.ring.specs.Element.{integer}
use Rattle.integer_step_back.proofs.Halves.{angles_half}
use Rattle.integer_step_back.proofs.half_at.Goals as goal

pub returns : goal.returns
returns g c = c.combination_back.ensures ∙ ap integer (angles_half g.row.P _ c.args.n c.requires.parity c.requires.n_bound)
