-- `source` meets its contract: the swap or not.
use borrow.Author.Tests.{lt-ltb, le-ltb}
use Rattle.orientations.specs.Orientation.{source}
use Rattle.orientations.proofs.Orientation.source.Goals as goal

pub returns-then-self-lt4 : goal.returns-then-self-lt4
unfolding source
returns-then-self-lt4 c = rw (lt-ltb c.args.self.number 4 c.if-self-lt4.true)

pub returns : goal.returns
unfolding source
returns c = rw (le-ltb c.args.self.number 4 c.if-self-lt4.false)
