-- `parts` meets its contract: the loop takes component k of each element.
use Rattle.std.specs.Prelude.{◌≡◌}
use Rattle.integers.specs.Kit.{[]}
use Rattle.integers.proofs.Tables.{Each}
use Rattle.ring.specs.Maps.{part}
use Rattle.elements.specs.Buffer.{item}
use Rattle.element_steps.proofs.parts.Given as goal

abbrev pub invariant-loop-n : goal.invariant-loop-n
invariant-loop-n l = Each (record { components = [] }) 8 (λ n e. e.components ≡ part (item l.x n) l.k) l.n l.r
