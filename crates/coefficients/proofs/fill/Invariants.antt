-- `fill` meets its contract: the loop fills the coefficients one by one, and each is a number of an i32.
use Rattle.integers.specs.Kit.{pos}
use Rattle.integers.proofs.Tables.{Filled}
use Rattle.limits.specs.Limits.{places, halvings}
use Rattle.coefficients.specs.Coefficients.{coefficient_at}
use Rattle.coefficients.specs.Widths.{bits}
use Rattle.coefficients.proofs.fill.Given as goal

abbrev pub invariant-loop-i : goal.invariant-loop-i
invariant-loop-i l = Filled (pos 0) places (coefficient_at halvings (bits l.fn.width) l.elements) l.i l.coefficients
