-- `convert_block` meets its contract: the block's elements are an accepted set, and words can hold its coefficients.
use Rattle.integers.specs.Kit.{refl, ap, ◌∙◌}
use Rattle.coefficients.specs.Coefficients.{coefficients_of}
use Rattle.coefficients.specs.Widths.{bits}
use Rattle.coefficients.proofs.Widths.{bits_width}
use Rattle.sheet_blocks.proofs.Samples.{block_ready, coefficients_fit}
use Rattle.sheet_blocks.proofs.convert_block.Goals as goal

pub fill-requires : goal.fill-requires
fill-requires c = block_ready c.requires.all_in_range c.transform.ensures refl

pub store-requires-clause-fit : goal.store-requires-clause-fit
store-requires-clause-fit c =
    let b = bits c.args.width in
    let made = c.fill.ensures ∙ ap (coefficients_of 2 b) c.transform.ensures in
    rw made (coefficients_fit b c.requires.all_in_range (bits_width c.args.width))
