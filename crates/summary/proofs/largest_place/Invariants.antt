-- The loop passes the places that have another magnitude.
use Rattle.summary.proofs.Magnitudes.{Before}
use Rattle.summary.proofs.largest_place.Given as goal

abbrev pub invariant-loop-p : goal.invariant-loop-p
invariant-loop-p l = Before l.coefficients l.p
