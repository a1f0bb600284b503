-- `block_of` meets its contract: the columns, one after the other, are all that a block has.
use Rattle.integers.specs.Kit.{pos}
use lib.ListN.{length-replicate}
use Rattle.back_passes.proofs.Rows.{restored_none, restored_more, restored_all}
use Rattle.back_passes.proofs.block_of.Goals as goal

pub returns : goal.returns
returns c =
    let columns2 = restored_more (restored_more (restored_none (length-replicate 64 (pos 0))) c.restore_column.ensures) c.restore_column-2.ensures in
    let columns4 = restored_more (restored_more columns2 c.restore_column-3.ensures) c.restore_column-4.ensures in
    let columns6 = restored_more (restored_more columns4 c.restore_column-5.ensures) c.restore_column-6.ensures in
    restored_all (restored_more (restored_more columns6 c.restore_column-7.ensures) c.restore_column-8.ensures)
