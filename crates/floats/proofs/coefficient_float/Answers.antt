-- `coefficient_float` meets its contract: the cast is of a number of few digits, and one division makes the fraction.
use lib.Ieee.{of_bits}
use borrow.Author.Rules.{rules}
use Rattle.integers.proofs.Signed.{read_i32}
use Rattle.floats.proofs.Fractions.{made}
use Rattle.floats.proofs.coefficient_float.Goals as goal

pub returns : goal.returns
unfolding of_bits
returns c = made c.requires (read_i32 c.args.y (search rules)) 3
