-- `composed` meets its contract: the code has the table's numbers.
use borrow.Author.Rules.{rules}
use Rattle.orientations.specs.Orientation.{composed}
use Rattle.orientations.proofs.composed.Goals as goal

pub returns : goal.returns
unfolding composed
returns c = search rules
