-- The line's five parts follow one another from the start.
use Rattle.integers.specs.Kit.{ap, ◌∙◌}
use borrow.Author.Rules.{rules}
use Rattle.integers.specs.Table.{over}
use Rattle.text.proofs.Lines.{together, whole}
use Rattle.sheet_bytes.specs.Program.{refusal_line}
use Rattle.sheet_bytes.proofs.line.Goals as goal

pub returns : goal.returns
unfolding refusal_line
returns c =
    let after = together c.put_decimal.ensures.wrote (together c.put-2.ensures (together c.put_decimal-2.ensures.wrote c.put-3.ensures)) in
    let all = whole c.new-line.ensures.at_value (together c.put.ensures after) in
    let left = all.1 ∙ ap (over _) c.new-line.ensures.output_value in
    record { value = c.len.ensures ∙ all.0; output_after = search rules }
