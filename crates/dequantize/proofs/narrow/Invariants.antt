-- The numbers are copied one by one.
use Rattle.integers.specs.Kit.{pos, get_or}
use Rattle.integers.proofs.Tables.{Filled}
use Rattle.limits.specs.Limits.{places}
use Rattle.dequantize.proofs.narrow.Given as goal

abbrev pub invariant-loop-p : goal.invariant-loop-p
invariant-loop-p l = Filled (pos 0) places (λ k. get_or l.products k (pos 0)) l.p l.coefficients
