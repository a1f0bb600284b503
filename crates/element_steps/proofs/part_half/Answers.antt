-- `part_half` meets its contract: half of a step over whole numbers, times c_K.
use Rattle.std.specs.Prelude.{◌≡◌, ◌*◌, ◌+◌}
use native.Mathlib.Omega.{arith}
use Rattle.element_steps.proofs.Sums.{room-step, half-part}
use Rattle.element_steps.proofs.part_half.Goals as goal

pub times_half-requires-clause-room : goal.times_half-requires-clause-room
times_half-requires-clause-room g c = room-step c.args.x g.row.K c.parts-a.ensures.row c.parts-a.ensures.room_2 (λ i. 2 * i) c.even.ensures

pub times_half-requires-2-clause-room : goal.times_half-requires-2-clause-room
times_half-requires-2-clause-room g c = room-step c.args.x g.row.K c.parts-a.ensures.row c.parts-a.ensures.room_2 (λ i. 2 * i + 1) c.odd.ensures

pub returns-then-this-eq0 : goal.returns-then-this-eq0
returns-then-this-eq0 g c =
    let z = c.if-this-eq0.true in
    let (row, room) = half-part c.args.x g.row.K c.parts-a.ensures.row c.parts-a.ensures.room_2 (λ i. 2 * i) c.even.ensures c.times_half.ensures in
    record { row = record { at = λ i h. let e : 2 * i + g.row.ODD ≡ 2 * i = omega arith in rw e (row.at i h) }; room = room }

pub returns : goal.returns
returns g c =
    let z = c.if-this-eq0.false in
    let few = c.requires.odd_bound in
    let one : g.row.ODD ≡ 1 = omega arith in
    let (row, room) = half-part c.args.x g.row.K c.parts-a.ensures.row c.parts-a.ensures.room_2 (λ i. 2 * i + 1) c.odd.ensures c.times_half-2.ensures in
    record { row = rw one row; room = room }
