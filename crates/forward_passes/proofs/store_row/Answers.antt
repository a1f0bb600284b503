-- `store_row` meets its contract: the loop stores element after element.
use native.Mathlib.Omega.{arith}
use Rattle.forward_passes.proofs.Stores.{row_more}
use Rattle.forward_passes.proofs.store_row.Goals as goal

pub loop-v-preserved : goal.loop-v-preserved
loop-v-preserved c = rw c.put.ensures (row_more (omega arith) c.loop-v.invariant)
