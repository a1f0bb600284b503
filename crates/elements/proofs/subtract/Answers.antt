-- `subtract` meets its contract: the sum with the negative, which needs no more room.
use Rattle.elements.proofs.Componentwise.{within_negate}
use Rattle.elements.proofs.subtract.Goals as goal

pub add-requires-clause-within_2 : goal.add-requires-clause-within_2
add-requires-clause-within_2 c = rw c.negate.ensures (within_negate c.requires.within_2)
