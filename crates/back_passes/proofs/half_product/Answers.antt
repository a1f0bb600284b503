-- `half_product` meets its contract: four products.
use Rattle.back_passes.proofs.Rows.{room-half}
use Rattle.back_passes.proofs.half_product.Goals as goal

pub times_half-requires-clause-room : goal.times_half-requires-clause-room
times_half-requires-clause-room c = room-half c.requires.limited _ c.requires.p_bound c.half_of.ensures
