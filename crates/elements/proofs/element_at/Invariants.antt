-- `element_at` meets its contract: the loop copies the components one by one.
use Rattle.std.specs.Prelude.{◌+◌, ◌*◌}
use Rattle.integers.specs.Kit.{pos, get_or}
use Rattle.integers.proofs.Tables.{Filled}
use Rattle.elements.proofs.element_at.Given as goal

abbrev pub invariant-loop-k : goal.invariant-loop-k
invariant-loop-k l = Filled (pos 0) 8 (λ k. get_or l.buffer (8 * l.p + k) (pos 0)) l.k l.r
