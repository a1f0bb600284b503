-- The values are written one by one, and each fits an i32.
use Rattle.std.specs.Prelude.{◌≡◌, ◌≤◌, ◌<◌}
use Rattle.integers.specs.Kit.{ap, ◌∙◌, ℕ, lit<, ℤ, pos, nat_abs, get_or}
use native.Mathlib.Nat.{lt_of_le_of_lt}
use native.Mathlib.Omega.{arith}
use mir.Syntax.{w32}
use mir.Val.{SFits}
use borrow.Author.Rules.{rules}
use Rattle.integers.proofs.Ranges.{within_limit}
use Rattle.integers.proofs.Signed.{in32, read_i32, kept}
use Rattle.integers.proofs.Tables.{filled_more, filled_all}
use Rattle.limits.specs.Limits.{coefficient_limit}
use Rattle.quantizer.specs.Quantizer.{step_of, quantized}
use Rattle.quantizer.proofs.Values.{step-inside, step-read, quantized_small}
use Rattle.quantizer.proofs.ZigZag.{read_below}
use Rattle.quantize.proofs.fill.Goals as goal

-- the value r that the call gives for y, as the buffer holds it
stored : {y : ℤ} (s : ℕ) {r : ℤ} → SFits w32 y → nat_abs y ≤ coefficient_limit → 0 < s → r ≡ quantized (in32 y) s → in32 r ≡ quantized y s
stored {y} s {r} f h k e =
    let g : r ≡ quantized y s = e ∙ ap (λ y. quantized y s) (read_i32 y f) in
    rw g (kept w32 (quantized y s) (lt_of_le_of_lt (quantized_small s k y h) (lit< tt)))

pub bounds-steps-order : goal.bounds-steps-order
bounds-steps-order c = rw c.requires.ready.ready_steps.size (read_below c.indices-order.ensures c.loop-p.p (omega arith))

pub quantized-requires-clause-step_nonzero : goal.quantized-requires-clause-step_nonzero
quantized-requires-clause-step_nonzero c =
    let p = c.loop-p.p in
    rw (step-read c.args.steps.now c.indices-order.ensures p (omega arith)) (step-inside c.requires.ready.ready_steps p (omega arith)).0

pub loop-p-preserved : goal.loop-p-preserved
loop-p-preserved c =
    let p = c.loop-p.p in
    let y = get_or c.args.coefficients.now p (pos 0) in
    let step = step-read c.args.steps.now c.indices-order.ensures p (omega arith) in
    filled_more (omega arith) c.loop-p.invariant
    (stored (step_of c.args.steps.now p) (search rules) (within_limit coefficient_limit y (c.requires.none_beyond p (omega arith)))
    (step-inside c.requires.ready.ready_steps p (omega arith)).0 (c.quantized.ensures ∙ ap (quantized (in32 y)) step))

pub returns : goal.returns
returns c = filled_all (omega arith) c.loop-p.invariant
