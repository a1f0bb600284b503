-- `half_used` meets its contract: the loop looks at every second component.
use Rattle.std.specs.Prelude.{◌-◌}
use Rattle.coefficients.proofs.Halves.{Looked}
use Rattle.coefficients.proofs.Bounded.half_used.Given as goal

abbrev pub invariant-loop-k : goal.invariant-loop-k
invariant-loop-k l = Looked l.h l.u l.k l.r

abbrev pub decreases-loop-k : goal.decreases-loop-k
decreases-loop-k l = 8 - l.k
