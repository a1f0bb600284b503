-- `convert` meets its contract: the head, the blocks and the end word are written one after the other.
use borrow.Author.Rules.{rules}
use Rattle.std.specs.Prelude.{◌-◌}
use Rattle.integers.specs.Kit.{ap, ◌∙◌, length}
use native.Mathlib.Omega.{arith}
use Rattle.coefficients.specs.Widths.{bits}
use Rattle.words.specs.Word.{coefficient_head_kind, word}
use Rattle.sheet_checks.specs.Check.{blocks}
use Rattle.sheet_blocks.specs.Preconditions.{with_blocks}
use Rattle.sheet_blocks.specs.Sums.{first_sum}
use Rattle.sheet_blocks.proofs.Output.{head_written, all_written, end_written}
use Rattle.sheet_blocks.proofs.Sums.{firsts_written}
use Rattle.sheet_blocks.proofs.convert.Goals as goal

pub returns : goal.returns
returns c =
    let checked = c.requires in
    let words = c.args.words.now in
    let l = c.args.output.now in
    let b = bits c.args.width in
    let made = c.all_blocks-totals.ensures in
    let head = head_written b words l (omega arith) (c.with_payload.ensures ∙ ap (word coefficient_head_kind) c.payload.ensures) in
    let left = made.output_after ∙ ap (with_blocks b words 0 (blocks words)) head ∙ all_written b words l (blocks words) in
    let size = checked.right.valid_shape.count in
    record {
      agree = record {
        of_samples = made.agree.of_samples;
        of_firsts = made.agree.of_firsts ∙ ap (λ o. first_sum o (blocks words)) left ∙ firsts_written b words l (blocks words) (omega arith);
      };
      scratch_after = search rules;
      output_after = rw left (end_written b words l (blocks words) (length words - 1) size checked.output_size (omega arith));
    }
