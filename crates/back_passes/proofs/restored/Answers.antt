-- `restored` meets its contract: the block of the rows that are made of the elements.
use Rattle.back_passes.proofs.Rows.{room-rows, restores}
use Rattle.back_passes.proofs.restored.Goals as goal

pub block_of-requires : goal.block_of-requires
block_of-requires c =
    let whole = rw c.unwrap.ensures at c.as_array.ensures.cases in
    room-rows c.requires (rw whole.same at c.rows_back.ensures)

pub returns : goal.returns
returns c =
    let whole = rw c.unwrap.ensures at c.as_array.ensures.cases in
    restores (rw whole.same at c.rows_back.ensures) c.block_of.ensures
