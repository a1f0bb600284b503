-- `term` meets its contract: the product of a whole number with a cosine needs no more than the number.
use Rattle.element_rows.proofs.Rooms.{small_integer-times}
use Rattle.integer_step.proofs.term.Goals as goal

pub returns-clause-within : goal.returns-clause-within
returns-clause-within c =
    let R = c.requires.room in
    let h = c.requires.n_bound in
    let l = c.requires.nonzero in
    rw c.times_integer.ensures (small_integer-times _ l (R.small _ h)).within
