-- `store` meets its contract: the loop writes the bytes of one word more each time.
use Rattle.std.specs.Prelude.{◌*◌}
use Rattle.integers.specs.Kit.{length}
use Rattle.integers.proofs.Overwriting.{Begun}
use Rattle.transform_bytes.proofs.Sheets.{byte_at}
use Rattle.transform_bytes.proofs.store.Given as goal

abbrev pub invariant-loop-k : goal.invariant-loop-k
invariant-loop-k l = Begun (byte_at l.words) (4 * length l.words) l.initial.output (4 * l.k) l.output
