-- `odds_half` meets its contract: the sum of four parts, for which there is room.
use Rattle.std.specs.Prelude.{◌*◌}
use Rattle.integers.specs.Kit.{◌∙◌, lit<, lit≤}
use native.Mathlib.Omega.{arith}
use Rattle.integers.specs.Sum.{sum}
use Rattle.elements.specs.Bound.{bit_limit, headroom}
use Rattle.element_rows.proofs.Rooms.{room_le}
use Rattle.element_steps.proofs.Sums.{all_parts, sum-two, room_added}
use Rattle.element_steps.proofs.odds_half.Goals as goal

pub add_each-three-requires : goal.add_each-three-requires
add_each-three-requires g c = (
  lit< tt,
  (
    room_added headroom (lit≤ tt) c.part_half.ensures.room c.part_half-2.ensures.room c.add_each-two.ensures,
    room_le (lit≤ tt) c.part_half-3.ensures.room,
  ),
)

pub add_each-requires : goal.add_each-requires
add_each-requires g c =
    let two = room_added (2 * bit_limit 28) (lit≤ tt) c.part_half.ensures.room c.part_half-2.ensures.room c.add_each-two.ensures in
    (lit< tt, (room_added headroom (lit≤ tt) two c.part_half-3.ensures.room c.add_each-three.ensures, room_le (lit≤ tt) c.part_half-4.ensures.room))

pub returns : goal.returns
unfolding sum
returns g c =
    let step = all_parts c.requires.only_components (λ j h. (omega arith, omega arith)) in
    let two = sum-two c.part_half.ensures.row c.part_half-2.ensures.row c.add_each-two.ensures in
    let three = sum-two two c.part_half-3.ensures.row c.add_each-three.ensures in
    let four = sum-two three c.part_half-4.ensures.row c.add_each.ensures in
    record { at = λ i h. four.at i h ∙ step _ }
