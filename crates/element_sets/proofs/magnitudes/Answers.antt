-- The loop sums the magnitudes of the components passed.
use Rattle.std.specs.Prelude.{◌≡◌, ◌*◌, ◌^◌, ◌≤◌}
use Rattle.integers.specs.Kit.{refl, ap, ◌∙◌, ℕ, ℤ, nat_abs}
use native.Mathlib.Numerals.{add-one}
use native.Mathlib.Omega.{arith}
use lib.Signed.{nat_abs-le}
use mir.Syntax.{w32}
use mir.Val.{SFits}
use borrow.Author.Rules.{rules}
use Rattle.integers.proofs.Signed.{in32, read_i32}
use Rattle.integers.specs.Sum.{sum}
use Rattle.ring.specs.Element.{component}
use Rattle.ring.proofs.Magnitude.{sizes, sizes-all}
use Rattle.element_sets.proofs.magnitudes.Goals as goal

-- the magnitude r that the call gives of a component x
read : (x : ℤ) → SFits w32 x → {r : ℕ} → r ≡ nat_abs (in32 x) → (r ≡ nat_abs x) × (r ≤ 2 ^ 31)
read x h e = let k = e ∙ ap nat_abs (read_i32 x h) in (k, rw k (nat_abs-le x h.sfits))

pub loop-x-init : goal.loop-x-init
unfolding sum
loop-x-init c = (refl, omega arith)

pub overflow_add-sum : goal.overflow_add-sum
overflow_add-sum c =
    let one = read (component c.args.u.components c.loop-x.x-index) (search rules) c.magnitude-sum.ensures in
    let bound : c.loop-x.sum ≤ c.loop-x.x-index * 2 ^ 31 = c.loop-x.invariant.1 in
    omega arith

pub loop-x-preserved : goal.loop-x-preserved
unfolding sum
loop-x-preserved c =
    let one = read (component c.args.u.components c.loop-x.x-index) (search rules) c.magnitude-sum.ensures in
    (rw (add-one, c.loop-x.invariant.0, one.0), omega arith)

pub returns : goal.returns
returns c =
    let u = c.args.u.components in
    let all : c.loop-x.x-index ≡ 8 = omega arith in
    c.loop-x.invariant.0 ∙ ap (sizes u) all ∙ sizes-all 8 u (search rules)
