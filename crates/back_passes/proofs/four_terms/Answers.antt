-- `four_terms` meets its contract: the sum of four multiples.
use Rattle.std.proofs.Common.{rules}
use Rattle.integers.specs.Kit.{lit<, lit≤, pos}
use mir.Syntax.{w32}
use mir.Val.{SFits}
use Rattle.back_passes.proofs.Columns.{term-room, within_term}
use Rattle.back_passes.proofs.four_terms.Goals as goal

one_fits : SFits w32 (pos 1)
one_fits = record { sfits = lit< tt }

pub multiple-requires-3 : goal.multiple-requires-3
multiple-requires-3 c =
    let all = term-room c.requires.room c.args.two.1 (search rules) 2 _ c.requires.two_weight c.requires.two_place (lit≤ tt) in
    record { within = all.0; sfits = all.1 }

pub multiple-requires-4 : goal.multiple-requires-4
multiple-requires-4 c =
    let all = term-room c.requires.room c.args.one.1 (search rules) 4 _ c.requires.one_weight c.requires.one_place (lit≤ tt) in
    record { within = all.0; sfits = all.1 }

pub add_four-requires : goal.add_four-requires
add_four-requires c =
    let room = c.requires.room in
    record {
      within = within_term room (pos 1) one_fits 1 0 (lit≤ tt) (lit< tt) (lit≤ tt) c.multiple.ensures;
      within_2 = within_term room c.args.w4 c.ranges.w4 1 1 c.requires.w4_bound (lit< tt) (lit≤ tt) c.multiple-2.ensures;
      within_3 = within_term room c.args.two.1 (search rules) 2 _ c.requires.two_weight c.requires.two_place (lit≤ tt) c.multiple-3.ensures;
      within_4 = within_term room c.args.one.1 (search rules) 4 _ c.requires.one_weight c.requires.one_place (lit≤ tt) c.multiple-4.ensures;
    }
