-- `step_of_column` meets its contract: the samples leave room for the step.
use Rattle.forward_passes.proofs.Blocks.{stepped_column}
use Rattle.forward_passes.proofs.step_of_column.Goals as goal

pub returns : goal.returns
returns c = stepped_column c.args.samples.now _ c.column.ensures c.integer_step.ensures
