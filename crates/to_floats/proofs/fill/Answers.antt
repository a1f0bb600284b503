-- Then all of them are.
use native.Mathlib.Omega.{arith}
use Rattle.integers.proofs.Tables.{filled_all}
use Rattle.to_floats.proofs.fill.Goals as goal

pub returns : goal.returns
returns c = filled_all (omega arith) c.loop-p.invariant
