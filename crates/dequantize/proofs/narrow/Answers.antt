-- Then all of them are.
use Rattle.integers.specs.Kit.{refl, sym, ◌∙◌, pos, get_or}
use native.Mathlib.Omega.{arith}
use Rattle.integers.proofs.Tables.{is_table, filled_all}
use Rattle.limits.specs.Limits.{places}
use Rattle.dequantize.proofs.narrow.Goals as goal

pub returns : goal.returns
returns c =
    let z = c.args.products.now in
    filled_all (omega arith) c.loop-p.invariant ∙ sym (is_table (pos 0) z places (λ p. get_or z p (pos 0)) c.requires.narrow.size (λ p l. refl))
