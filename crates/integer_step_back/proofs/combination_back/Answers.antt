-- `combination_back` meets its contract: the sum of four components.
use Rattle.integers.specs.Kit.{lit<, lit≤}
use Rattle.elements.proofs.Bounds.{within_le}
use Rattle.integer_step_back.proofs.Halves.{within_term}
use Rattle.integer_step_back.proofs.combination_back.Goals as goal

pub add_four-requires : goal.add_four-requires
add_four-requires c =
    let room = c.requires.room in
    let nonzero = c.requires.nonzero in
    record {
      within = rw c.along.ensures (within_term room 0 (lit< tt) _ (nonzero 0 (lit< tt)));
      within_2 = rw c.along-2.ensures (within_term room 1 (lit< tt) _ (nonzero 1 (lit< tt)));
      within_3 = rw c.along-3.ensures (within_le (lit≤ tt) (within_term room 2 (lit< tt) _ (nonzero 2 (lit< tt))));
      within_4 = rw c.along-4.ensures (within_le (lit≤ tt) (within_term room 3 (lit< tt) _ (nonzero 3 (lit< tt))));
    }
