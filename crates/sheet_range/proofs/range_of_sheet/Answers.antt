-- `range_of_sheet` meets its contract: the loop keeps the range of the blocks so far.
use Rattle.std.specs.Prelude.{◌/◌, ◌<◌}
use Rattle.integers.specs.Kit.{ap₂, ◌∙◌, length, lit≤}
use native.Mathlib.Omega.{arith}
use Rattle.limits.specs.Limits.{places}
use lib.Ieee.{lt}
use Rattle.floats.proofs.Comparison.{in_order}
use Rattle.sheet_range.proofs.Extremes.{by_lower, by_higher, both_digits, float_next, sheet-extreme}
use Rattle.sheet_range.proofs.range_of_sheet.Goals as goal

pub loop-k-preserved : goal.loop-k-preserved
loop-k-preserved c =
    let (low, high) = c.loop-k.invariant in
    let more : c.loop-k.k < length c.args.words.now / places = omega arith in
    let lowest = c.range_of_block.ensures.lowest_value in
    let highest = c.range_of_block.ensures.highest_value in
    let (l, m) = both_digits by_lower low more in
    let (h, k) = both_digits by_higher high more in
    rw (c.hull-r.ensures.lowest_value, c.hull-r.ensures.highest_value) (
      float_next by_lower low more lowest (ap₂ lt lowest low.is ∙ in_order 3 _ _ (lit≤ tt) m l),
      float_next by_higher high more highest (ap₂ lt high.is highest ∙ in_order 3 _ _ (lit≤ tt) h k),
    )

pub returns : goal.returns
returns c =
    let (low, high) = c.loop-k.invariant in
    record { lowest_value = sheet-extreme by_lower low (omega arith); highest_value = sheet-extreme by_higher high (omega arith) }
