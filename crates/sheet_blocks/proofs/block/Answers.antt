-- `block` meets its contract: the loop reads the values of 64 words.
use native.Mathlib.Omega.{arith}
use Rattle.integers.proofs.Tables.{filled_all}
use Rattle.sheet_blocks.specs.Blocks.{block}
use Rattle.sheet_blocks.proofs.block.Goals as goal

pub returns : goal.returns
unfolding block
returns c = filled_all (omega arith) c.loop-i.invariant
