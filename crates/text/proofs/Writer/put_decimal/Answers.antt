-- `put_decimal` meets its contract: the digits that `io::decimal` makes are the fewest that hold the number.
use Rattle.integers.specs.Kit.{◌∙◌}
use Rattle.text.proofs.Decimals.{fewest}
use Rattle.text.proofs.Lines.{same-part}
use Rattle.text.proofs.Writer.put_decimal.Goals as goal

pub returns-clause-wrote : goal.returns-clause-wrote
returns-clause-wrote c = let made = c.decimal-k.ensures in
    same-part (made.digits ∙ fewest c.args.n c.decimal-k.result made.len) c.put.ensures
