-- The loop passes the places that have another magnitude, and stops at the first that has it.
use Rattle.std.specs.Prelude.{◌≡◌}
use Rattle.integers.specs.Kit.{sym, ap, ◌∙◌, ℤ, pos, nat_abs}
use native.Mathlib.Omega.{arith}
use mir.Syntax.{w32}
use mir.Val.{of_z}
use borrow.Author.Rules.{rules}
use Rattle.integers.proofs.Signed.{read_i32}
use Rattle.to_floats.specs.ToFloats.{coefficient_at}
use Rattle.summary.proofs.Magnitudes.{found_place, not_before}
use Rattle.summary.proofs.largest_place.Goals as goal

-- the magnitude r of y, as the test reads it; z is y, as the call reads it
asked : {y z r : ℤ} → r ≡ pos (nat_abs z) → z ≡ y → of_z w32 r ≡ nat_abs y
asked e f = rw (e, f)

pub returns-then-abs-m : goal.returns-then-abs-m
returns-then-abs-m c =
    let y = c.args.coefficients.now in
    found_place y c.loop-p.p (omega arith) c.loop-p.invariant
    (sym (asked c.abs.ensures.value (read_i32 (coefficient_at y c.loop-p.p) (search rules))) ∙ c.if-abs-m.true ∙ ap (of_z w32) c.requires.m_value)

pub unreachable-requires : goal.unreachable-requires
unreachable-requires c = not_before c.args.coefficients.now c.loop-p-test.false c.loop-p.invariant
