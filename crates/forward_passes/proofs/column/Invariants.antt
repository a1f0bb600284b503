-- `column` meets its contract: the loop takes sample after sample of the column.
use Rattle.std.specs.Prelude.{◌≡◌, ◌+◌, ◌*◌}
use Rattle.integers.specs.Kit.{[]}
use Rattle.integers.proofs.Tables.{Each}
use Rattle.ring.specs.Element.{integer}
use Rattle.blocks.specs.Blocks.{sample}
use Rattle.forward_passes.proofs.column.Given as goal

abbrev pub invariant-loop-i : goal.invariant-loop-i
invariant-loop-i l = Each (record { components = [] }) 8 (λ i e. e.components ≡ integer (sample l.samples (8 * i + l.j))) l.i l.r
