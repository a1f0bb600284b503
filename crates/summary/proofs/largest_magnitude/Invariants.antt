-- The loop keeps the largest so far.
use Rattle.std.specs.Prelude.{◌≡◌}
use Rattle.integers.specs.Kit.{pos, nat_abs}
use Rattle.summary.proofs.Magnitudes.{Largest}
use Rattle.summary.proofs.largest_magnitude.Given as goal

abbrev pub invariant-loop-p : goal.invariant-loop-p
invariant-loop-p l = (l.m ≡ pos (nat_abs l.m)) × Largest l.coefficients l.p (nat_abs l.m)
