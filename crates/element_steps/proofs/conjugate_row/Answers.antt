-- `conjugate_row` meets its contract: eight conjugates, four of them negated, for which they have room.
use Rattle.integers.specs.Kit.{sym, ap, ◌∙◌, lit<}
use Rattle.ring.specs.Element.{negate}
use Rattle.ring.proofs.Linear.{scale_one}
use Rattle.dct.specs.Rows.{conjugate_row}
use Rattle.element_rows.proofs.Rooms.{small_conjugate, row_8}
use Rattle.element_steps.proofs.conjugate_row.Goals as goal

pub negate-requires : goal.negate-requires
negate-requires c = rw c.conjugate.ensures (small_conjugate (c.requires.small 0 (lit< tt))).within

pub negate-requires-2 : goal.negate-requires-2
negate-requires-2 c = rw c.conjugate-2.ensures (small_conjugate (c.requires.small 3 (lit< tt))).within

pub negate-requires-3 : goal.negate-requires-3
negate-requires-3 c = rw c.conjugate-5.ensures (small_conjugate (c.requires.small 4 (lit< tt))).within

pub negate-requires-4 : goal.negate-requires-4
negate-requires-4 c = rw c.conjugate-7.ensures (small_conjugate (c.requires.small 2 (lit< tt))).within

pub returns : goal.returns
unfolding conjugate_row
returns c =
    row_8 (c.negate.ensures ∙ ap negate c.conjugate.ensures) (c.negate-2.ensures ∙ ap negate c.conjugate-2.ensures)
    (c.conjugate-3.ensures ∙ sym (scale_one _)) (c.conjugate-4.ensures ∙ sym (scale_one _)) (c.negate-3.ensures ∙ ap negate c.conjugate-5.ensures)
    (c.conjugate-6.ensures ∙ sym (scale_one _)) (c.negate-4.ensures ∙ ap negate c.conjugate-7.ensures) (c.conjugate-8.ensures ∙ sym (scale_one _))
