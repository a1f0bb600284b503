-- `column_back` meets its contract: four terms at each place.
use Rattle.integers.specs.Kit.{lit<}
use Rattle.ring.specs.Element.{cosine}
use Rattle.dct.specs.Inverse.{known_factor, weight}
use Rattle.dct.specs.Transform.{factor}
use Rattle.element_rows.proofs.Rooms.{row_8}
use Rattle.back_passes.proofs.Columns.{place}
use Rattle.back_passes.proofs.column_back.Goals as goal

pub returns : goal.returns
unfolding weight known_factor factor cosine
returns c =
    row_8
    (place _ 0 (lit< tt) c.four_terms.ensures)
    (place _ 1 (lit< tt) c.four_terms-2.ensures)
    (place _ 2 (lit< tt) c.four_terms-3.ensures)
    (place _ 3 (lit< tt) c.four_terms-4.ensures)
    (place _ 4 (lit< tt) c.four_terms-5.ensures)
    (place _ 5 (lit< tt) c.four_terms-6.ensures)
    (place _ 6 (lit< tt) c.four_terms-7.ensures)
    (place _ 7 (lit< tt) c.four_terms-8.ensures)
