-- `sum` meets its contract: the loop adds one sample after the other.
use Rattle.integers.specs.Kit.{refl}
use Rattle.sheet_blocks.proofs.Sums.{adding_none, plus_fits, adding_more}
use Rattle.sheet_blocks.proofs.sum.Goals as goal

pub loop-x-init : goal.loop-x-init
loop-x-init c = adding_none

pub overflow_add-total : goal.overflow_add-total
overflow_add-total c = plus_fits c.requires c.loop-x.invariant c.loop-x-test.true refl

pub loop-x-preserved : goal.loop-x-preserved
loop-x-preserved c = adding_more c.requires c.loop-x.invariant c.loop-x-test.true refl refl
