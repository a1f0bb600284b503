-- `transform` meets its contract: the steps over columns and then rows make the exact elements.
use Rattle.integers.specs.Kit.{ap, ◌∙◌}
use Rattle.blocks.specs.Blocks.{elements_of}
use Rattle.forward_passes.proofs.Blocks.{stored_elements}
use Rattle.forward_passes.proofs.transform.Goals as goal

pub returns : goal.returns
returns c =
    let whole = rw c.unwrap-samples.ensures at c.as_array.ensures.cases in
    c.rows.ensures ∙ stored_elements _ c.columns.ensures ∙ ap (elements_of 2) whole.same
