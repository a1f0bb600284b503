-- `magnitudes` meets its contract: the loop sums the magnitudes of the components passed.
use Rattle.std.specs.Prelude.{◌≡◌, ◌*◌, ◌^◌, ◌≤◌}
use Rattle.ring.proofs.Magnitude.{sizes}
use Rattle.element_sets.proofs.magnitudes.Given as goal

abbrev pub invariant-loop-x : goal.invariant-loop-x
invariant-loop-x l = (l.sum ≡ sizes l.fn.u.components l.x-index) × (l.sum ≤ l.x-index * 2 ^ 31)
