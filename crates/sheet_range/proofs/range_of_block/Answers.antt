-- `range_of_block` meets its contract: the loop keeps the lowest and the highest value so far.
use Rattle.integers.specs.Kit.{ap, ◌∙◌}
use native.Mathlib.Omega.{arith}
use Rattle.floats.specs.Fraction.{coefficient_float}
use Rattle.sheet_range.proofs.Extremes.{by_lower, by_higher, value-first, value_next, value_next_higher, value_small, block-extreme}
use Rattle.sheet_range.proofs.range_of_block.Goals as goal

pub loop-i-init : goal.loop-i-init
loop-i-init c =
    let body = c.requires in
    (value-first body c.value-lowest.ensures, value-first body c.value-lowest.ensures)

pub loop-i-preserved : goal.loop-i-preserved
loop-i-preserved c =
    let (low, high) = c.loop-i.invariant in (
      value_next by_lower low (omega arith) c.value-y.ensures c.min-lowest.ensures.value,
      value_next_higher high (omega arith) c.value-y.ensures c.max-highest.ensures.value,
    )

pub coefficient_float-requires : goal.coefficient_float-requires
coefficient_float-requires c = value_small by_lower c.loop-i.invariant.0

pub coefficient_float-requires-2 : goal.coefficient_float-requires-2
coefficient_float-requires-2 c = value_small by_higher c.loop-i.invariant.1

pub returns : goal.returns
returns c =
    let (low, high) = c.loop-i.invariant in
    record {
      lowest_value = c.coefficient_float.ensures ∙ ap coefficient_float (block-extreme by_lower low (omega arith));
      highest_value = c.coefficient_float-2.ensures ∙ ap coefficient_float (block-extreme by_higher high (omega arith));
    }
