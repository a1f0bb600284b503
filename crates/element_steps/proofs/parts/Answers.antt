-- `parts` meets its contract: the loop takes component k of each element.
use Rattle.integers.specs.Kit.{ap, ◌∙◌}
use native.Mathlib.Omega.{arith}
use Rattle.integers.proofs.Tables.{each_more}
use Rattle.ring.specs.Element.{integer}
use Rattle.ring.proofs.Dots.{dot-cosine}
use Rattle.element_rows.proofs.Rooms.{eights}
use Rattle.element_steps.proofs.parts.Goals as goal

pub loop-n-preserved : goal.loop-n-preserved
loop-n-preserved c =
    let room = c.requires.room in
    let some = c.requires.k_nonzero in
    let few = c.requires.k_bound in
    let e = eights (room.small c.loop-n.n (omega arith)) in
    each_more (omega arith) c.loop-n.invariant (c.along.ensures ∙ ap integer (dot-cosine c.args.k some few e))
