-- `sum_of_terms` meets its contract: the loop adds one product after the other, and none of the sums is above `largest`.
use Rattle.std.specs.Prelude.{◌-◌}
use Rattle.coefficients.proofs.Halves.{Summed}
use Rattle.coefficients.proofs.Table.sum_of_terms.Given as goal

abbrev pub invariant-loop-k : goal.invariant-loop-k
invariant-loop-k l = Summed l.fn.self.bits l.numbers l.a l.first l.step l.k l.n

abbrev pub decreases-loop-k : goal.decreases-loop-k
decreases-loop-k l = 7 - l.k
