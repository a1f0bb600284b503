-- The products are written one by one, and where one is beyond the limit, they are searched for the first.
use Rattle.std.specs.Prelude.{◌≡◌, ◌≤◌}
use Rattle.integers.specs.Kit.{sym, ap, ap₂, ◌∙◌, ℕ, ℤ, pos, get_or}
use native.Mathlib.Omega.{arith}
use mir.Syntax.{w32, w64}
use mir.Val.{SFits}
use borrow.Author.Rules.{rules}
use Rattle.integers.specs.Range.{beyond}
use Rattle.integers.proofs.Search.{any_none, asked_all, asked_more}
use Rattle.integers.proofs.Signed.{in32, in64, read_i32, kept}
use Rattle.integers.proofs.Tables.{filled_more, filled_all}
use Rattle.limits.specs.Limits.{places, step_limit, dequantized_limit}
use Rattle.answers.specs.Answer.{accept, none_holds, passes}
use Rattle.answers.proofs.Causes.{found_refused, no_more, none_found, only_reason}
use Rattle.quantizer.specs.Quantizer.{dequantized}
use Rattle.quantizer.proofs.Values.{step-inside, step-read, product_small}
use Rattle.quantizer.proofs.ZigZag.{read_below}
use Rattle.dequantize.proofs.Acceptance.{searched}
use Rattle.dequantize.proofs.multiply.Goals as goal

-- the product z that the call gives for q and the step that was read, as it is read back
product : {q : ℤ} {s t : ℕ} {z : ℤ} → SFits w32 q → s ≡ t → t ≤ step_limit → z ≡ dequantized (in32 q) s → in64 z ≡ dequantized q t
product {q} {s} {t} {z} f e h g =
    let same : z ≡ dequantized q t = g ∙ ap₂ dequantized (read_i32 q f) e in
    rw same (kept w64 (dequantized q t) (product_small q t f h))

pub bounds-steps-order : goal.bounds-steps-order
bounds-steps-order c = rw c.requires.ready_steps.size (read_below c.indices-order.ensures c.loop-p.p (omega arith))

pub loop-p-preserved : goal.loop-p-preserved
loop-p-preserved c =
    let p = c.loop-p.p in
    let q = get_or c.args.values.now p (pos 0) in
    let step = step-read c.args.steps.now c.indices-order.ensures p (omega arith) in
    let z = product {q = q} (search rules) step (step-inside c.requires.ready_steps p (omega arith)).1 c.dequantized-z.ensures in
    (filled_more (omega arith) c.loop-p.invariant.0 z, asked_more (omega arith) c.loop-p.invariant.1 (c.dequantized_beyond-beyond.ensures ∙ ap (beyond dequantized_limit) z))

pub returns-then-not-beyond : goal.returns-then-not-beyond
returns-then-not-beyond c =
    let none = any_none places _ (sym (asked_all (omega arith) c.loop-p.invariant.1) ∙ c.if-not-beyond.true) in
    record { returned_value = only_reason (passes none none_holds); products_after = filled_all (omega arith) c.loop-p.invariant.0 }

pub returns-in-Some : goal.returns-in-Some
returns-in-Some c =
    let made = filled_all (omega arith) c.loop-p.invariant.0 in
    record { returned_value = found_refused _ _ _ _ _ (searched c.args.values.now c.args.steps.now made c.in-Some.ensures); products_after = made }

pub returns-in-None : goal.returns-in-None
returns-in-None c =
    let made = filled_all (omega arith) c.loop-p.invariant.0 in
    let none = none_found _ _ _ _ _ _ (searched c.args.values.now c.args.steps.now made c.in-None.ensures) (no_more accept) in
    record { returned_value = none; products_after = made }
