-- `block` meets its contract: the loop reads the values of 64 words.
use Rattle.std.specs.Prelude.{◌+◌, ◌*◌}
use Rattle.integers.specs.Kit.{pos}
use Rattle.integers.proofs.Tables.{Filled}
use Rattle.limits.specs.Limits.{places}
use Rattle.words.specs.Word.{payload, value}
use Rattle.sheet_checks.specs.Check.{word_at}
use Rattle.sheet_blocks.proofs.block.Given as goal

abbrev pub invariant-loop-i : goal.invariant-loop-i
invariant-loop-i l = Filled (pos 0) places (λ i. value (payload (word_at l.words (1 + places * l.k + i)))) l.i l.samples
