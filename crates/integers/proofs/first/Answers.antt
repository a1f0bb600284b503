-- An item that passes is the first, since the loop passed all before it; and past the loop none does, which `any` had ruled out.
use Rattle.std.specs.Prelude.{◌≡◌}
use Rattle.integers.specs.Kit.{sym, ◌∙◌, length}
use native.Mathlib.Omega.{arith}
use Rattle.integers.proofs.Search.{found_at, found_none, none_below_more, none_any, tested}
use Rattle.integers.proofs.first.Goals as goal

pub loop-i-preserved : goal.loop-i-preserved
loop-i-preserved g c = λ passes h.
    none_below_more (omega arith) (c.loop-i.invariant passes h) (sym (tested h (omega arith) c.index-items-i.is c.test.ensures) ∙ c.if-test.false)

pub returns-then-test : goal.returns-then-test
returns-then-test g c = λ passes h.
    found_at (omega arith) (c.loop-i.invariant passes h) (sym (tested h (omega arith) c.index-items-i.is c.test.ensures) ∙ c.if-test.true)

pub returns-then-not-any : goal.returns-then-not-any
returns-then-not-any g c = λ passes h. found_none _ _ (sym (c.any.ensures passes h) ∙ c.if-not-any.true)

pub returns : goal.returns
returns g c = λ passes h.
    let all : c.loop-i.i ≡ length c.args.items.now = omega arith in
    found_none _ _ (none_any _ _ (rw all at c.loop-i.invariant passes h).fails)
