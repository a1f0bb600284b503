-- The values are written one by one.
use Rattle.integers.specs.Kit.{pos}
use Rattle.integers.proofs.Tables.{Filled}
use Rattle.limits.specs.Limits.{places}
use Rattle.quantize.specs.Quantize.{quantized_at}
use Rattle.quantize.proofs.fill.Given as goal

abbrev pub invariant-loop-p : goal.invariant-loop-p
invariant-loop-p l = Filled (pos 0) places (quantized_at l.coefficients l.steps) l.p l.values
