-- `element_at` meets its contract: the loop copies the components one by one.
use native.Mathlib.Omega.{arith}
use Rattle.integers.proofs.Tables.{filled_all}
use Rattle.elements.specs.Buffer.{element_at}
use Rattle.elements.proofs.element_at.Goals as goal

pub returns : goal.returns
unfolding element_at
returns c = filled_all (omega arith) c.loop-k.invariant
