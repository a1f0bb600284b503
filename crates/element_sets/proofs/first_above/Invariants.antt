-- The loop passes each element within the limit.
use Rattle.std.specs.Prelude.{◌/◌}
use Rattle.integers.specs.Kit.{length}
use Rattle.integers.proofs.Search.{NoneBelow}
use Rattle.element_sets.specs.Sets.{above_limit}
use Rattle.element_sets.proofs.first_above.Given as goal

abbrev pub invariant-loop-p : goal.invariant-loop-p
invariant-loop-p l = NoneBelow (length l.elements / 8) (above_limit l.limit l.elements) l.p
