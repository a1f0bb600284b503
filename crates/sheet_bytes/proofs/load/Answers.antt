-- `load` meets its contract: the loop writes the words one by one.
use native.Mathlib.Omega.{arith}
use Rattle.integers.proofs.Overwriting.{begun_none, begun_more, begun_all}
use Rattle.sheet_bytes.specs.Program.{words_of}
use Rattle.sheet_bytes.proofs.load.Goals as goal

pub loop-i-init : goal.loop-i-init
loop-i-init c = begun_none (omega arith)

pub loop-i-preserved : goal.loop-i-preserved
loop-i-preserved c = begun_more (omega arith) c.loop-i.invariant c.word_from.ensures

pub returns : goal.returns
unfolding words_of
returns c = begun_all (omega arith) c.loop-i.invariant
