-- `negate` meets its contract: the loop fills the negative components one by one.
use Rattle.integers.specs.Kit.{pos, neg_ℤ}
use Rattle.integers.proofs.Tables.{Filled}
use Rattle.ring.specs.Element.{component}
use Rattle.elements.proofs.negate.Given as goal

abbrev pub invariant-loop-i : goal.invariant-loop-i
invariant-loop-i l = Filled (pos 0) 8 (λ k. neg_ℤ (component l.u k)) l.i l.r
