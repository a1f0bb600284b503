-- `coefficient` meets its contract: the shifts round down, and what they give fits an i32.
use Rattle.integers.specs.Kit.{lit<}
use Rattle.coefficients.proofs.Sizes.{allowed}
use Rattle.coefficients.proofs.Steps.{sum_fits, one_more_fits, rounded_fits, rounded-read}
use Rattle.coefficients.proofs.Table.coefficient.Goals as goal

pub overflow_add-twice : goal.overflow_add-twice
overflow_add-twice c = sum_fits (allowed c.args.self.at_width c.args.self.are_numbers c.args.u.in_limit) c.numerator-n.ensures _ (lit< tt)

pub overflow_add-y : goal.overflow_add-y
overflow_add-y c = one_more_fits (allowed c.args.self.at_width c.args.self.are_numbers c.args.u.in_limit) c.numerator-n.ensures _ (lit< tt) c.requires

pub overflow_cast-result : goal.overflow_cast-result
overflow_cast-result c = rounded_fits (allowed c.args.self.at_width c.args.self.are_numbers c.args.u.in_limit) c.numerator-n.ensures _ (lit< tt) c.requires

pub returns : goal.returns
returns c = rounded-read (allowed c.args.self.at_width c.args.self.are_numbers c.args.u.in_limit) c.numerator-n.ensures _ (lit< tt) c.requires
