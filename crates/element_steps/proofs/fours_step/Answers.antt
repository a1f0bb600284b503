-- `fours_step` meets its contract: one part is the whole row.
use Rattle.integers.specs.Kit.{◌∙◌}
use native.Mathlib.Omega.{arith}
use Rattle.integers.specs.Sum.{sum}
use Rattle.element_steps.proofs.Sums.{all_parts}
use Rattle.element_steps.proofs.fours_step.Goals as goal

pub returns : goal.returns
unfolding sum
returns c =
    let step = all_parts c.requires.only_components (λ j h. (omega arith, omega arith)) in
    record { at = λ f h. c.part_step.ensures.row.at f h ∙ step f }
