-- Each answer of the test is that of the item's index.
use native.Mathlib.Omega.{arith}
use Rattle.integers.proofs.Search.{asked_more, asked_all, tested}
use Rattle.integers.proofs.any.Goals as goal

pub loop-x-preserved : goal.loop-x-preserved
loop-x-preserved g c = λ passes h. asked_more (omega arith) (c.loop-x.invariant passes h) (tested h (omega arith) c.x-item.is c.test-r.ensures)

pub returns : goal.returns
returns g c = λ passes h. asked_all (omega arith) (c.loop-x.invariant passes h)
