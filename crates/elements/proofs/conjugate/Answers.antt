-- `conjugate` meets its contract: the components change places, and three of them their sign.
use Rattle.std.specs.Prelude.{◌≡◌}
use Rattle.integers.specs.Kit.{refl, sym, ℕ}
use borrow.Author.Rules.{rules}
use Rattle.integers.proofs.Signed.{in32}
use Rattle.ring.specs.Element.{component, Eight}
use Rattle.ring.proofs.Conjugates.{conjugate_components}
use Rattle.elements.proofs.Bounds.{held, negative_kept}
use Rattle.elements.proofs.conjugate.Goals as goal

pub returns : goal.returns
returns c =
    let u = component c.args.a.components in
    let w = c.requires.within in
    let e : Eight c.args.a.components = record { eight = search rules } in
    let at : (k : ℕ) → in32 (u k) ≡ u k = λ k. held refl (w k) in
    let u3 = negative_kept (u 3) (w 3) c.minus-u1.ensures in
    let u4 = negative_kept (u 4) (w 4) c.minus-u4.ensures in
    let u2 = negative_kept (u 2) (w 2) c.minus-u6.ensures in
    rw (at 0, u3, at 6, at 7, u4, at 1, u2, at 5) (sym (conjugate_components e))
