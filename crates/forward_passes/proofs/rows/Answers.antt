-- `rows` meets its contract: the rows of the three classes are all rows.
use Rattle.forward_passes.proofs.Stores.{both, all-rows}
use Rattle.forward_passes.proofs.rows.Goals as goal

pub returns : goal.returns
returns c = all-rows tt c.told-elements (both (both c.rows_0_4.ensures c.rows_6_2.ensures) c.odd_rows.ensures)
