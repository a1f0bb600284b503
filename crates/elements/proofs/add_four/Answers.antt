-- `add_four` meets its contract: three sums, each with room for the next.
use Rattle.integers.specs.Kit.{lit≤}
use Rattle.elements.proofs.Bounds.{within_le}
use Rattle.elements.proofs.Componentwise.{within_add}
use Rattle.elements.proofs.add_four.Goals as goal

pub add-requires-2-clause-within : goal.add-requires-2-clause-within
add-requires-2-clause-within c =
    let p = c.requires.within in
    let q = c.requires.within_2 in
    let r = c.requires.within_3 in
    let s = c.requires.within_4 in
    rw c.add.ensures (within_le (lit≤ tt) (within_add p q))

pub add-requires-3-clause-within : goal.add-requires-3-clause-within
add-requires-3-clause-within c =
    let p = c.requires.within in
    let q = c.requires.within_2 in
    let r = c.requires.within_3 in
    let s = c.requires.within_4 in
    rw (c.add-2.ensures, c.add.ensures) (within_le (lit≤ tt) (within_add (within_add p q) r))
