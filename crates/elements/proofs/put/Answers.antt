-- `put` meets its contract: the loop stores the components one by one.
use native.Mathlib.Omega.{arith}
use Rattle.elements.proofs.Buffers.{stored_all}
use Rattle.elements.proofs.put.Goals as goal

pub returns : goal.returns
returns c = stored_all (omega arith) c.loop-k.invariant
