-- `add` meets its contract: the loop fills the sum's components one by one, and each sum of two fits.
use Rattle.std.specs.Prelude.{◌+ℤ◌}
use Rattle.integers.specs.Kit.{pos}
use Rattle.integers.proofs.Tables.{Filled}
use Rattle.ring.specs.Element.{component}
use Rattle.elements.proofs.add.Given as goal

abbrev pub invariant-loop-i : goal.invariant-loop-i
invariant-loop-i l = Filled (pos 0) 8 (λ k. component l.x k +ℤ component l.y k) l.i l.r
