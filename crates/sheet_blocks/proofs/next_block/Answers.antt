-- `next_block` meets its contract: the words of the block are written into the output where the blocks before it end, and both sums take it in.
use Rattle.std.specs.Prelude.{◌≡◌, ◌+◌, ◌-◌, ◌*◌, ◌<◌, ◌+ℤ◌}
use Rattle.integers.specs.Kit.{ap, ◌∙◌, List, ℕ, ℤ, length, take, drop}
use native.Mathlib.Omega.{arith}
use borrow.Author.Rules.{rules}
use Rattle.integers.specs.Table.{over, table}
use Rattle.integers.proofs.Signed.{read_i32}
use Rattle.limits.specs.Limits.{blocks_limit, places}
use Rattle.blocks.specs.Blocks.{block_sum, elements_of}
use Rattle.coefficients.specs.Coefficients.{coefficients_of}
use Rattle.coefficients.specs.Widths.{bits}
use Rattle.sheet_blocks.specs.Blocks.{block, block_coefficients, coefficient_word}
use Rattle.sheet_blocks.proofs.Output.{block_written}
use Rattle.sheet_blocks.proofs.Samples.{block_words, block_range}
use Rattle.sheet_blocks.proofs.Sums.{agree_more, room}
use Rattle.sheet_blocks.proofs.next_block.Goals as goal

-- the coefficients of the samples x of block k
of_block : (b : ℕ) (words : List ℕ) (k : ℕ) {x : List ℤ} → x ≡ block words k → coefficients_of 2 b (elements_of 2 x) ≡ block_coefficients b words k
unfolding block_coefficients
of_block b words k e = ap (λ x. coefficients_of 2 b (elements_of 2 x)) e

pub convert_block-requires-clause-all_in_range : goal.convert_block-requires-clause-all_in_range
convert_block-requires-clause-all_in_range c =
    let checked = c.requires.checked in
    let k = c.args.k in
    let words = block_words checked k c.requires.blocks_bound in
    rw c.block-samples.ensures (block_range checked k c.requires.blocks_bound)

pub with_block-requires : goal.with_block-requires
with_block-requires c =
    let checked = c.requires.checked in
    let few : c.args.k < blocks_limit = omega (arith, c.requires.blocks_bound, checked.right.valid_shape.few_blocks) in
    record {
      room = room c.requires.agree few;
      all_in_range = rw c.block-samples.ensures (block_range checked c.args.k c.requires.blocks_bound);
    }

pub returns : goal.returns
returns c =
    let args = c.args in
    let checked = c.requires.checked in
    let k = args.k in
    let b = bits args.width in
    let words = block_words checked k c.requires.blocks_bound in
    let samples = c.block-samples.ensures in
    let rest = length args.output.now - (1 + places * k) in
    let made = c.convert_block.ensures in
    let is = ap (λ y. over (table places (coefficient_word y)) (take rest (drop (1 + places * k) args.output.now))) (of_block b args.words.now k samples) in
    let left = block_written b args.words.now args.output.now k rest words (omega (arith, checked.output_size)) (omega (arith, checked.output_size)) (made.output_after ∙ is) in
    let first = read_i32 c.value.result (search rules) ∙ c.value.ensures in
    let sums = c.with_block.ensures in
    record {
      agree_2 = agree_more c.requires.agree b (omega (arith, checked.output_size)) left
          (sums.samples_value ∙ ap (λ x. args.totals.samples +ℤ block_sum x) samples) (sums.firsts_value ∙ ap (λ z. args.totals.firsts +ℤ z) first);
      scratch_after = search rules;
      output_after = left;
    }
