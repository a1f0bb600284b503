-- The samples are copied one by one.
use Rattle.integers.specs.Kit.{pos, get_or}
use Rattle.integers.proofs.Tables.{Filled}
use Rattle.limits.specs.Limits.{places}
use Rattle.back.proofs.store.Given as goal

abbrev pub invariant-loop-i : goal.invariant-loop-i
invariant-loop-i l = Filled (pos 0) places (λ k. get_or l.block k (pos 0)) l.i l.samples
