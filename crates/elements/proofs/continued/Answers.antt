-- `continued` meets its contract: each way out is one stretch of the index.
use Rattle.std.specs.Prelude.{◌≡◌, ◌-◌}
use Rattle.integers.specs.Kit.{sym, ◌∙◌, pos, length}
use native.Mathlib.Omega.{arith}
use lib.ListN.{get_or-eq_default}
use borrow.Author.Rules.{rules}
use Rattle.integers.proofs.Signed.{read_i32}
use Rattle.ring.specs.Element.{component}
use Rattle.elements.proofs.Bounds.{negative_kept}
use Rattle.elements.proofs.Products.{continued_low, continued_middle, continued_high}
use Rattle.elements.proofs.continued.Goals as goal

pub returns-then-j-lt7 : goal.returns-then-j-lt7
returns-then-j-lt7 c =
    let u = component c.args.a.components (7 - c.args.j) in
    let read = read_i32 u (search rules) in
    read ∙ sym (continued_low c.args.a.components c.args.j c.if-j-lt7.true)

pub returns-then-j-lt15 : goal.returns-then-j-lt15
returns-then-j-lt15 c =
    let u = component c.args.a.components (c.args.j - 7) in
    let read = read_i32 u (search rules) in
    read ∙ sym (continued_middle c.args.a.components c.args.j (omega arith) (omega arith))

pub returns-then-j-eq15 : goal.returns-then-j-eq15
returns-then-j-eq15 c =
    let e : c.args.j ≡ 15 = c.if-j-eq15.true in
    let l : length c.args.a.components ≡ 8 = search rules in
    sym (continued_middle c.args.a.components c.args.j (omega arith) (omega arith)
    ∙ get_or-eq_default c.args.a.components (pos 0) {n = c.args.j - 7} (omega arith))

pub returns : goal.returns
returns c =
    negative_kept (component c.args.a.components (23 - c.args.j)) (c.requires.within.within (23 - c.args.j)) c.minus.ensures
    ∙ sym (continued_high c.args.a.components c.args.j (omega arith))
