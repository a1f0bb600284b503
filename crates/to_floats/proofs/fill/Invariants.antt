-- The floats are written one by one.
use Rattle.integers.proofs.Tables.{Filled}
use Rattle.limits.specs.Limits.{places}
use Rattle.floats.specs.Fraction.{coefficient_float, plus_zero}
use Rattle.to_floats.specs.ToFloats.{coefficient_at}
use Rattle.to_floats.proofs.fill.Given as goal

abbrev pub invariant-loop-p : goal.invariant-loop-p
invariant-loop-p l = Filled plus_zero places (λ k. coefficient_float (coefficient_at l.coefficients k)) l.p l.floats
