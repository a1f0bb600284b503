-- `signed` meets its contract: -1 times an element, or 1 times it.
use Rattle.integers.specs.Kit.{sym}
use Rattle.ring.proofs.Linear.{scale_one}
use Rattle.orientations.proofs.signed.Goals as goal

pub returns : goal.returns
returns c = rw c.if-negated.false (sym (scale_one c.args.a.components))
