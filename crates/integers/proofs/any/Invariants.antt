-- The loop asks one item more each time.
use Rattle.integers.specs.Kit.{Bool, ℕ, length}
use Rattle.integers.specs.Search.{Tests}
use Rattle.integers.proofs.Search.{Asked}
use Rattle.integers.proofs.any.Given as goal

abbrev pub invariant-loop-x : goal.invariant-loop-x
invariant-loop-x g l = (passes : ℕ → Bool) → Tests (goal.F-post g l.test) l.items passes → Asked (length l.items) passes l.x-index l.r
