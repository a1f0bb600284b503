-- `load` meets its contract: the loop writes the words one by one.
use Rattle.std.specs.Prelude.{◌*◌}
use Rattle.integers.proofs.Overwriting.{Begun}
use Rattle.sheet_bytes.specs.Program.{word_from}
use Rattle.sheet_bytes.proofs.load.Given as goal

abbrev pub invariant-loop-i : goal.invariant-loop-i
invariant-loop-i l = Begun (λ k. word_from l.bytes (4 * k)) l.i-end l.initial.words l.i l.words
