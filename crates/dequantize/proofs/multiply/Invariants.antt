-- The products are written one by one, and each is asked whether it is beyond the limit.
use Rattle.integers.specs.Kit.{pos}
use Rattle.integers.proofs.Search.{Asked}
use Rattle.integers.proofs.Tables.{Filled}
use Rattle.limits.specs.Limits.{places}
use Rattle.dequantize.specs.Dequantize.{dequantized_at, dequantized_beyond_at}
use Rattle.dequantize.proofs.multiply.Given as goal

abbrev pub invariant-loop-p : goal.invariant-loop-p
invariant-loop-p l = Filled (pos 0) places (dequantized_at l.values l.steps) l.p l.products × Asked places (dequantized_beyond_at l.values l.steps) l.p l.beyond
