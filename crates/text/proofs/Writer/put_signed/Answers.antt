-- `put_signed` meets its contract: below zero a minus sign stands before the digits of the magnitude.
use Rattle.std.specs.Prelude.{◌∷◌, ◌++◌}
use Rattle.integers.specs.Kit.{sym, ap, ◌∙◌, [], nat_abs}
use native.Mathlib.Omega.{arith}
use Rattle.integers.proofs.Signed.{read_i64}
use Rattle.text.specs.Decimal.{decimal, minus}
use Rattle.text.proofs.Decimals.{below_zero, from_zero}
use Rattle.text.proofs.Lines.{same-part, together}
use Rattle.text.proofs.Writer.put_signed.Goals as goal
use Rattle.text.proofs.Writer.put_signed.Goals.{then-is_negative, else-is_negative}

pub put_decimal-requires : goal.put_decimal-requires
put_decimal-requires c = elim c.if-is_negative.branch [
  | then-is_negative w ↦ rw w.self-is (omega (arith, w.put.ensures.appended.end, w.put.ensures.same_length))
  | else-is_negative w ↦ rw w.self-is (omega (arith, c.requires))
]

pub returns-clause-wrote : goal.returns-clause-wrote
returns-clause-wrote c =
    let z = c.args.n in
    let read = read_i64 z c.ranges.n in
    let made = ap decimal (c.unsigned_abs.ensures.value ∙ ap nat_abs read) in
    elim c.if-is_negative.branch [
      | then-is_negative w ↦
          let is = ap (λ t. (minus ∷ []) ++ t) made ∙ below_zero z (rw read at (sym c.is_negative.ensures ∙ w.if-is_negative.true)) in
          same-part is (together w.put.ensures (rw w.self-is at c.put_decimal.ensures.wrote))
      | else-is_negative w ↦ same-part (made ∙ from_zero z (rw read at (sym c.is_negative.ensures ∙ w.if-is_negative.false))) (rw w.self-is at c.put_decimal.ensures.wrote)
    ]
