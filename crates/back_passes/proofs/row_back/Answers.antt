-- `row_back` meets its contract: the transpose over the row that is joined.
use Rattle.integers.specs.Kit.{sym, ap, ◌∙◌}
use native.Mathlib.Omega.{arith}
use Rattle.ring.specs.Element.{integer}
use Rattle.dct.proofs.IntegerBack.{back_sum}
use Rattle.elements.specs.Buffer.{item}
use Rattle.back_passes.proofs.row_back.Goals as goal

pub returns : goal.returns
returns c =
    let evens = c.join.ensures.row in
    let odds = c.join.ensures.row_2 in
    let row = item c.join.result in
    record {
      at = λ n h. c.integer_step_back.ensures.at n h ∙ ap integer (sym (back_sum _ _ n row (λ i l. evens.at i l ∙ ap row (omega arith)) odds.at));
    }
