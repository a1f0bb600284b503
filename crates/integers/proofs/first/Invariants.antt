-- The loop passes each item that fails the test.
use Rattle.integers.specs.Kit.{Bool, ℕ, length}
use Rattle.integers.specs.Search.{Tests}
use Rattle.integers.proofs.Search.{NoneBelow}
use Rattle.integers.proofs.first.Given as goal

abbrev pub invariant-loop-i : goal.invariant-loop-i
invariant-loop-i g l = (passes : ℕ → Bool) → Tests (goal.F-post g l.test) l.items passes → NoneBelow (length l.items) passes l.i
