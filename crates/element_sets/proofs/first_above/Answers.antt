-- The first element above the limit is found, since the loop passed all before it; and past the loop there is none.
use Rattle.std.specs.Prelude.{◌≡◌, ◌/◌}
use Rattle.integers.specs.Kit.{ap, ◌∙◌, length}
use native.Mathlib.Omega.{arith}
use Rattle.integers.proofs.Search.{found_at, found_none, none_any}
use Rattle.ring.specs.Element.{magnitudes}
use Rattle.element_sets.proofs.Limit.{above_yes}
use Rattle.element_sets.proofs.first_above.Goals as goal

pub returns-then-limit-magnitudes : goal.returns-then-limit-magnitudes
returns-then-limit-magnitudes c =
    let sum = c.magnitudes.ensures ∙ ap magnitudes c.element_at.ensures in
    found_at (omega arith) c.loop-p.invariant (above_yes c.args.limit c.args.elements.now c.loop-p.p sum (omega arith))

pub returns : goal.returns
returns c =
    let all : c.loop-p.p ≡ length c.args.elements.now / 8 = omega arith in
    found_none _ _ (none_any _ _ (rw all at c.loop-p.invariant).fails)
