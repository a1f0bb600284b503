-- `sum_of_terms` meets its contract: the loop adds one product after the other, and none of the sums is above `largest`.
use native.Mathlib.Omega.{arith}
use Rattle.coefficients.proofs.Sizes.{allowed}
use Rattle.coefficients.proofs.Steps.{step_fits, step_kept, first_step, next_step}
use Rattle.coefficients.proofs.Halves.{summed_none, summed_next, summed-all}
use Rattle.coefficients.proofs.Table.sum_of_terms.Goals as goal

pub loop-k-init : goal.loop-k-init
loop-k-init c =
    let A = allowed c.args.self.at_width c.args.self.are_numbers c.args.u.in_limit in
    summed_none _ _ _ c.requires (step_kept (first_step A c.power.ensures) c.plus_product-n.ensures)

pub plus_product-n-requires-in-loop-k : goal.plus_product-n-requires-in-loop-k
plus_product-n-requires-in-loop-k c =
    let A = allowed c.args.self.at_width c.args.self.are_numbers c.args.u.in_limit in
    let fits = step_fits (next_step A c.loop-k.k c.loop-k-test.true _ c.loop-k.invariant.value) in
    record { sfits = fits.0; sfits_2 = fits.1 }

pub loop-k-preserved : goal.loop-k-preserved
loop-k-preserved c =
    let A = allowed c.args.self.at_width c.args.self.are_numbers c.args.u.in_limit in
    summed_next _ _ _ A c.requires c.loop-k-test.true _ c.loop-k.invariant c.plus_product-n-in-loop-k.ensures

pub returns : goal.returns
returns c = summed-all _ _ _ c.requires (omega arith) c.loop-k.invariant

-- the loop ends where a step from k would leave the range, with the term at k
pub returns-2 : goal.returns-2
returns-2 c =
    let A = allowed c.args.self.at_width c.args.self.are_numbers c.args.u.in_limit in
    let next = summed_next _ _ _ A c.requires c.loop-k-test.true _ c.loop-k.invariant c.plus_product-n-in-loop-k.ensures in
    summed-all _ _ _ c.requires (omega arith) next
