-- `twos_step` meets its contract: the sum of two parts, half by half.
use Rattle.std.specs.Prelude.{◌+◌, ◌*◌}
use Rattle.integers.specs.Kit.{◌∙◌}
use native.Mathlib.Omega.{arith}
use Rattle.integers.specs.Sum.{sum}
use Rattle.dct.specs.Transform.{step}
use Rattle.elements.specs.Buffer.{item}
use Rattle.element_steps.proofs.Sums.{all_parts, joined_halves, sum-two}
use Rattle.element_steps.proofs.twos_step.Goals as goal

pub returns : goal.returns
unfolding sum
returns c =
    let all = all_parts c.requires.only_components (λ j h. (omega arith, omega arith)) in
    let E = sum-two c.part_half.ensures.row c.part_half-2.ensures.row c.add_each-e.ensures in
    let O = sum-two c.part_half-3.ensures.row c.part_half-4.ensures.row c.add_each-o.ensures in
    joined_halves (step (item c.args.x)) (c.join.ensures.row, c.join.ensures.row_2)
    (record { at = λ i h. E.at i h ∙ all (2 * i + 0) }) (record { at = λ i h. O.at i h ∙ all (2 * i + 1) })
