-- `put` meets its contract: the loop stores the components one by one.
use Rattle.elements.proofs.Buffers.{Stored}
use Rattle.elements.proofs.put.Given as goal

abbrev pub invariant-loop-k : goal.invariant-loop-k
invariant-loop-k l = Stored l.initial.buffer l.p l.u l.k l.buffer
