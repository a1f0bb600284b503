-- `transform_input` meets its contract: bytes over are refused, and whole words go to the sheet job.
use Rattle.integers.specs.Kit.{refl, replicate}
use native.Mathlib.Omega.{arith}
use borrow.Author.Rules.{rules}
use Rattle.sheet_bytes.proofs.Inputs.{bytes_over, whole_words}
use Rattle.sheet_bytes.proofs.transform_input.Goals as goal

pub returns-then-size-ne0 : goal.returns-then-size-ne0
returns-then-size-ne0 c =
    let args = c.args in
    let (a, (t, l)) = bytes_over args.input.now c.min-size.ensures args.output.now (λ z. c.if-size-ne0.true (omega arith)) refl refl in
    record { answer_value = a; totals_value = t; output_after = l; input_kept = refl }

pub returns : goal.returns
returns c =
    let args = c.args in
    let promised = c.sheet.ensures in
    let (a, (t, l)) = whole_words args.input.now c.min-size.ensures c.load.new.words (replicate 8195 0) c.load.ensures args.output.now (search rules)
    c.if-size-ne0.false promised.answer_value promised.totals_value promised.output_after in
    record { answer_value = a; totals_value = t; output_after = l; input_kept = refl }
