-- `word_from` meets its contract: it is the word of the four bytes that it reads.
use native.Mathlib.Omega.{arith}
use Rattle.sheet_bytes.specs.Program.{word_from}
use Rattle.sheet_bytes.proofs.word_from.Goals as goal

pub returns : goal.returns
unfolding word_from
returns c = omega arith
