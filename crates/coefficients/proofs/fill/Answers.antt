-- `fill` meets its contract: the loop fills the coefficients one by one, and each is a number of an i32.
use native.Mathlib.Omega.{arith}
use Rattle.integers.proofs.Tables.{filled_all}
use Rattle.coefficients.proofs.fill.Goals as goal

pub returns : goal.returns
returns c = filled_all (omega arith) c.loop-i.invariant
