-- `line` meets its contract: the line's five parts follow one another from the start.
use Rattle.integers.specs.Kit.{ap, ◌∙◌}
use borrow.Author.Rules.{rules}
use Rattle.integers.specs.Table.{over}
use Rattle.integers.proofs.Signed.{read_i64}
use Rattle.text.specs.Decimal.{signed_decimal}
use Rattle.text.proofs.Lines.{same-part, together, whole}
use Rattle.sum_bytes.specs.Output.{sum_line}
use Rattle.sum_bytes.proofs.line.Goals as goal

pub returns : goal.returns
unfolding sum_line
returns c =
    let totals = c.args.totals in
    let first = same-part (ap signed_decimal (read_i64 totals.samples (search rules))) c.put_signed.ensures.wrote in
    let second = same-part (ap signed_decimal (read_i64 totals.firsts (search rules))) c.put_signed-2.ensures.wrote in
    let all = whole c.new-line.ensures.at_value (together c.put.ensures (together first (together c.put-2.ensures (together second c.put-3.ensures)))) in
    let left = all.1 ∙ ap (over _) c.new-line.ensures.output_value in
    record { value = c.len.ensures ∙ all.0; output_after = search rules }
