-- `store` meets its contract: the loop writes the words of 64 coefficients over the start of its part of the output.
use Rattle.integers.proofs.Overwriting.{Begun}
use Rattle.limits.specs.Limits.{places}
use Rattle.sheet_blocks.specs.Blocks.{coefficient_word}
use Rattle.sheet_blocks.proofs.store.Given as goal

abbrev pub invariant-loop-i : goal.invariant-loop-i
invariant-loop-i l = Begun (coefficient_word l.coefficients) places l.initial.output l.i l.output
