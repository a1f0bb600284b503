-- The numbers are compared one by one, from the front.
use Rattle.back.proofs.Comparison.{Agreed}
use Rattle.back.proofs.same.Given as goal

abbrev pub invariant-loop-i : goal.invariant-loop-i
invariant-loop-i l = Agreed l.a l.b l.i l.r
