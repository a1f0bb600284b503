-- `numbers` meets its contract: each arm is one width.
use Rattle.integers.specs.Kit.{refl}
use Rattle.coefficients.specs.Tables.{table_numbers}
use Rattle.coefficients.proofs.Width.numbers.Goals as goal

pub returns-in-Eleven : goal.returns-in-Eleven
unfolding table_numbers
returns-in-Eleven c = rw c.in-Eleven.is refl

pub returns-in-Twenty : goal.returns-in-Twenty
unfolding table_numbers
returns-in-Twenty c = rw c.in-Twenty.is refl

pub returns-in-TwentySix : goal.returns-in-TwentySix
unfolding table_numbers
returns-in-TwentySix c = rw c.in-TwentySix.is refl
