-- `convert` meets its contract: a refused sheet becomes its line, and an accepted one the line of its sums.
use Rattle.integers.specs.Kit.{refl, sym, ap, ◌∙◌, List, ℕ, take}
use Rattle.answers.proofs.Jobs.{done}
use Rattle.sheet_blocks.specs.declared.Totals.{Totals}
use Rattle.sheet_blocks.specs.Sums.{firsts_total, no_totals, samples_total, sheet_totals}
use Rattle.sheet_bytes.specs.Program.{input_job, input_limit, program_width}
use Rattle.sheet_bytes.proofs.Programs.{accepted_bytes, promised, refused_bytes}
use Rattle.sum_bytes.specs.Output.{sum_bytes, sum_line}
use Rattle.sum_bytes.proofs.convert.Goals as goal

-- what is made of an accepted sheet's words
abbrev sums_of : List ℕ → List ℕ
sums_of words = sum_line (samples_total words) (firsts_total program_width words)

pub returns-in-Err : goal.returns-in-Err
unfolding sum_bytes
returns-in-Err c =
    let args = c.args in
    let is = refused_bytes (take input_limit args.input.now) sums_of c.in-Err.r c.in-Err.ensures.answer_value in
    let (m, (l, counts)) = promised args.output.now is c.refusal.ensures.value c.refusal.ensures.output_after in
    record { value = m; output_after = l; prefix_len = counts; input_kept = refl }

pub returns-in-Ok : goal.returns-in-Ok
unfolding sum_bytes
returns-in-Ok c =
    let args = c.args in
    let bytes = take input_limit args.input.now in
    let made = c.in-Ok.ensures in
    let totals = made.totals_value ∙ sym (done (input_job (sheet_totals program_width) no_totals bytes) _ made.answer_value refl) in
    let is = ap (λ (t : Totals). sum_line t.samples t.firsts) totals ∙ accepted_bytes bytes sums_of _ made.answer_value in
    let (m, (l, counts)) = promised args.output.now is c.line.ensures.value c.line.ensures.output_after in
    record { value = m; output_after = l; prefix_len = counts; input_kept = refl }
