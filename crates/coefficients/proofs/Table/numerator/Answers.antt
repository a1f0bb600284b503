-- `numerator` meets its contract: the terms that are left out are those of a half that is 0.
use Rattle.coefficients.specs.Preconditions.{all, odds, evens}
use Rattle.coefficients.proofs.Table.numerator.Goals as goal

pub sum_of_terms-requires : goal.sum_of_terms-requires
sum_of_terms-requires c = odds (c.half_used.ensures c.if-not-half_used.true)

pub sum_of_terms-requires-then-not-half_used-2 : goal.sum_of_terms-requires-then-not-half_used-2
sum_of_terms-requires-then-not-half_used-2 c = evens (c.half_used-2.ensures c.if-not-half_used-2.true)

pub sum_of_terms-requires-2 : goal.sum_of_terms-requires-2
sum_of_terms-requires-2 c = all
