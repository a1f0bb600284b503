-- `along` meets its contract: one component, with the sign of the cosine.
use Rattle.std.specs.Prelude.{◌≡◌}
use Rattle.integers.specs.Kit.{ap, ◌∙◌}
use borrow.Author.Rules.{rules}
use Rattle.integers.proofs.Signed.{in32}
use Rattle.ring.specs.Element.{component, integer, Eight}
use Rattle.elements.specs.Angle.{index}
use Rattle.elements.proofs.Angles.{dot_is, signed_held}
use Rattle.elements.proofs.Bounds.{held}
use Rattle.elements.proofs.along.Goals as goal

-- the component, read back
read : (c : goal.After-only) → in32 c.component-u.result ≡ component c.args.a.components (index c.args.m)
read c = held (c.component-u.ensures ∙ ap (component c.args.a.components) c.index.ensures.value) (c.requires.within.within _)

pub returns : goal.returns
returns c =
    let w = c.requires.within in
    let h = c.requires.nonzero in
    let a = c.args.a.components in
    let m = c.args.m in
    let e : Eight a = record { eight = search rules } in
    c.only.ensures ∙ ap integer (signed_held (component a (index m)) m (w.within (index m)) (read c) c.signed.ensures ∙ dot_is m h e)
