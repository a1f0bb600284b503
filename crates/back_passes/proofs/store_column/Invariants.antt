-- `store_column` meets its contract: the loop stores number after number.
use Rattle.std.specs.Prelude.{◌/◌}
use lib.Signed.{shr_z}
use Rattle.back_passes.specs.Passes.{numbers}
use Rattle.back_passes.proofs.Columns.{ColumnBegun}
use Rattle.back_passes.proofs.store_column.Given as goal

abbrev pub invariant-loop-i : goal.invariant-loop-i
invariant-loop-i l = ColumnBegun (λ n. shr_z (numbers l.fn.y (n / 8)) 128) l.j l.initial.block l.i l.block
