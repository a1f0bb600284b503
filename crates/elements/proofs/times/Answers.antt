-- `times` meets its contract: the loop fills the product's components one by one, and each sum of two fits.
use Rattle.integers.specs.Kit.{sym, ◌∙◌}
use native.Mathlib.Omega.{arith}
use borrow.Author.Rules.{rules}
use Rattle.integers.proofs.Tables.{filled_all}
use Rattle.ring.specs.Element.{Eight}
use Rattle.elements.specs.Continued.{continued}
use Rattle.elements.proofs.Products.{product-table}
use Rattle.elements.proofs.Bounds.{within_continued, sum_fits}
use Rattle.elements.proofs.times.Goals as goal

pub plus-requires : goal.plus-requires
plus-requires c =
    let u = continued c.args.a.components in
    let w = within_continued c.requires.within in
    rw (c.continued.ensures, c.continued-in-loop-i.ensures) (sum_fits (u _) (u _) (w _) (w _))

pub returns : goal.returns
returns c =
    let e : Eight c.args.a.components = record { eight = search rules } in
    filled_all (omega arith) c.loop-i.invariant ∙ sym (product-table c.args.k c.requires.k_bound e)
