-- `times` meets its contract: the loop fills the product's components one by one, and each sum of two fits.
use Rattle.std.specs.Prelude.{◌+◌, ◌-◌, ◌+ℤ◌}
use Rattle.integers.specs.Kit.{pos}
use Rattle.integers.proofs.Tables.{Filled}
use Rattle.elements.specs.Continued.{continued}
use Rattle.elements.proofs.times.Given as goal

abbrev pub invariant-loop-i : goal.invariant-loop-i
invariant-loop-i l = Filled (pos 0) 8 (λ i. continued l.a.components (7 + i - l.k) +ℤ continued l.a.components (7 + i + l.k)) l.i l.r
