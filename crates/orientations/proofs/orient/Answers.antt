-- `orient` meets its contract: the loop stores the elements one by one.
use Rattle.std.specs.Prelude.{◌≡◌}
use Rattle.integers.specs.Kit.{sym, ap, ap₂, ◌∙◌, List, ℕ, ℤ}
use native.Mathlib.Omega.{arith}
use Rattle.ring.specs.Element.{scale}
use Rattle.elements.specs.Buffer.{element_at}
use Rattle.elements.proofs.Buffers.{elements_more, elements_all}
use Rattle.orientations.specs.Orientation.{source, sign, reoriented_element, reoriented_elements}
use Rattle.orientations.proofs.Places.{source-below}
use Rattle.orientations.proofs.Sets.{room}
use Rattle.orientations.proofs.orient.Goals as goal

-- what the calls make together: the element at its place, with its sign
moved : (o p : ℕ) (e : List ℤ) {from : ℕ} {s : ℤ} {a r : List ℤ} → from ≡ source o p → a ≡ element_at e from → sign o p ≡ s → r ≡ scale s a
    → r ≡ reoriented_element o e p
moved o p e f g h k = k ∙ ap₂ scale (sym h) (g ∙ ap (element_at e) f)

pub element_at-a-requires : goal.element_at-a-requires
element_at-a-requires c =
    let below = source-below c.args.orientation.number c.loop-p.p c.args.orientation.known (omega arith) in
    omega (arith, c.source.ensures, c.requires.accepted_set.size, below)

pub signed-requires : goal.signed-requires
signed-requires c =
    rw (c.element_at-a.ensures, c.source.ensures)
    (room c.requires.accepted_set (source c.args.orientation.number c.loop-p.p) (source-below c.args.orientation.number c.loop-p.p c.args.orientation.known (omega arith)))

pub loop-p-preserved : goal.loop-p-preserved
loop-p-preserved c =
    let args = c.args in
    rw c.put.ensures
    (elements_more (omega arith) c.loop-p.invariant
    (moved args.orientation.number c.loop-p.p args.elements.now c.source.ensures c.element_at-a.ensures c.is_negated.ensures
    c.signed.ensures))

pub returns : goal.returns
unfolding reoriented_elements
returns c = elements_all (omega arith) c.loop-p.invariant
