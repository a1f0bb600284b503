-- Then all of them are.
use Rattle.std.specs.Prelude.{◌≡◌}
use Rattle.integers.specs.Kit.{length}
use native.Mathlib.Omega.{arith}
use borrow.Author.Rules.{rules}
use Rattle.limits.specs.Limits.{components_size}
use Rattle.back.proofs.Comparison.{agreed_all}
use Rattle.back.proofs.same.Goals as goal

pub returns : goal.returns
returns c =
    let size : length c.args.a.now ≡ components_size = search rules in
    agreed_all c.args.a.now c.args.b.now size c.requires (omega arith) c.loop-i.invariant
