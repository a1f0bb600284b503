-- `times_integer` meets its contract: the number at the component of its cosine, with its sign.
use Rattle.std.specs.Prelude.{◌≡◌}
use Rattle.integers.specs.Kit.{ap₂, ◌∙◌}
use Rattle.integers.proofs.Signed.{in32}
use Rattle.ring.specs.Element.{component, only}
use Rattle.elements.proofs.Angles.{integer-times, signed_held}
use Rattle.elements.proofs.Bounds.{held}
use Rattle.elements.proofs.times_integer.Goals as goal

-- u_0, read back
read : (c : goal.After-only) → in32 c.component-u.result ≡ component c.args.a.components 0
read c = held c.component-u.ensures (c.requires.within.within 0)

pub returns : goal.returns
returns c =
    let w = c.requires.within in
    let h = c.requires.nonzero in
    let u = component c.args.a.components 0 in
    let m = c.args.m in
    c.only.ensures ∙ ap₂ only (signed_held u m (w.within 0) (read c) c.signed.ensures) c.index.ensures.value ∙ integer-times m h u
