-- `is_negated` meets its contract: a computed law has the sign as the code makes it.
use Rattle.orientations.proofs.Places.{sign_code}
use Rattle.orientations.proofs.Orientation.is_negated.Goals as goal

pub returns : goal.returns
returns c = sign_code c.args.self.number c.args.p c.args.self.known c.requires
