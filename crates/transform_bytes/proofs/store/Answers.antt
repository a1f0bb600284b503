-- `store` meets its contract: the loop writes the bytes of one word more each time.
use Rattle.integers.specs.Kit.{◌∙◌}
use native.Mathlib.Omega.{arith}
use Rattle.integers.proofs.Overwriting.{begun_all, begun_none}
use Rattle.transform_bytes.specs.Output.{bytes_of}
use Rattle.transform_bytes.proofs.Sheets.{stored}
use Rattle.transform_bytes.proofs.store.Goals as goal

pub loop-k-init : goal.loop-k-init
loop-k-init c = begun_none (omega arith)

pub loop-k-preserved : goal.loop-k-preserved
loop-k-preserved c = stored c.args.words.now c.loop-k.k (omega arith) c.loop-k.invariant c.copy_from_slice.new.self _ (c.copy_from_slice.ensures.after ∙ c.to_be_bytes.ensures) (omega arith)

pub returns-clause-output_after : goal.returns-clause-output_after
unfolding bytes_of
returns-clause-output_after c = begun_all (omega arith) c.loop-k.invariant
