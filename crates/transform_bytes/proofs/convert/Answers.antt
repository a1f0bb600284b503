-- `convert` meets its contract: a refused sheet becomes a line, and an accepted one its bytes.
use Rattle.integers.specs.Kit.{refl, sym, ◌∙◌, take, replicate, ℕ}
use native.Mathlib.Omega.{arith}
use lib.ListN.{length-replicate}
use Rattle.sheet_bytes.specs.Program.{input_limit, words_limit}
use Rattle.sheet_bytes.proofs.Programs.{promised, refused_bytes}
use Rattle.transform_bytes.specs.Output.{output_bytes}
use Rattle.transform_bytes.proofs.Sheets.{length_bytes, sheet_bytes, written}
use Rattle.transform_bytes.proofs.convert.Goals as goal

pub returns-in-Err : goal.returns-in-Err
unfolding output_bytes
returns-in-Err c =
    let args = c.args in
    let is = refused_bytes (take input_limit args.input.now) sheet_bytes c.in-Err.r c.in-Err.ensures.answer_value in
    let (m, (l, counts)) = promised args.output.now is c.refusal.ensures.value c.refusal.ensures.output_after in
    record { value = m; output_after = l; prefix_len = counts; input_kept = refl }

pub slice_bounds-made-end : goal.slice_bounds-made-end
slice_bounds-made-end c =
    let made = c.transform_input in
    let w = written (take input_limit c.args.input.now) c.in-Ok.written.words c.in-Ok.ensures.answer_value
    (replicate words_limit 0) made.new.output (length-replicate {A = ℕ} words_limit 0) c.in-Ok.ensures.output_after in
    omega (arith, w.room, w.size)

pub slice_bounds-store-end : goal.slice_bounds-store-end
slice_bounds-store-end c =
    let made = c.transform_input in
    let w = written (take input_limit c.args.input.now) c.in-Ok.written.words c.in-Ok.ensures.answer_value
    (replicate words_limit 0) made.new.output (length-replicate {A = ℕ} words_limit 0) c.in-Ok.ensures.output_after in
    sym w.count

pub returns-in-Ok : goal.returns-in-Ok
returns-in-Ok c =
    let made = c.transform_input in
    let w = written (take input_limit c.args.input.now) c.in-Ok.written.words c.in-Ok.ensures.answer_value
    (replicate words_limit 0) made.new.output (length-replicate {A = ℕ} words_limit 0) c.in-Ok.ensures.output_after in
    let (m, (l, counts)) = promised c.args.output.now w.is (c.store.ensures.value ∙ sym (length_bytes _)) c.store.ensures.output_after in
    record { value = m; output_after = l; prefix_len = counts; input_kept = refl }
