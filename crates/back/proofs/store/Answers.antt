-- Then all of them are.
use Rattle.integers.specs.Kit.{refl, sym, ◌∙◌, pos, get_or}
use native.Mathlib.Omega.{arith}
use borrow.Author.Rules.{rules}
use Rattle.integers.proofs.Tables.{is_table, filled_all}
use Rattle.limits.specs.Limits.{places}
use Rattle.back.proofs.store.Goals as goal

pub returns : goal.returns
returns c =
    let y = c.args.block in
    filled_all (omega arith) c.loop-i.invariant ∙ sym (is_table (pos 0) y places (λ p. get_or y p (pos 0)) (search rules) (λ p l. refl))
