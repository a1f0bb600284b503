-- `orient` meets its contract: the loop stores the elements one by one.
use Rattle.limits.specs.Limits.{places}
use Rattle.elements.proofs.Buffers.{ElementsStored}
use Rattle.orientations.specs.Orientation.{reoriented_element}
use Rattle.orientations.proofs.orient.Given as goal

abbrev pub invariant-loop-p : goal.invariant-loop-p
invariant-loop-p l = ElementsStored places (reoriented_element l.orientation.number l.elements) l.p l.output
