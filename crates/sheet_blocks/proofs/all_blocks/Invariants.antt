-- `all_blocks` meets its contract: the loop does one block after the other.
use Rattle.coefficients.specs.Widths.{bits}
use Rattle.sheet_blocks.specs.Blocks.{element_scratch}
use Rattle.sheet_blocks.proofs.Loop.{Reached}
use Rattle.sheet_blocks.proofs.all_blocks.Given as goal

abbrev pub invariant-loop-k : goal.invariant-loop-k
invariant-loop-k l = Reached element_scratch l.words (bits l.width) l.initial.output l.k l.totals l.scratch l.output
