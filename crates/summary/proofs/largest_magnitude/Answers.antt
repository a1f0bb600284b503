-- The loop keeps the largest so far.
use Rattle.std.specs.Prelude.{◌≡◌, ◌≤◌}
use Rattle.std.specs.Int.{int_max}
use Rattle.std.proofs.lemmas.Int.{ints}
use Rattle.std.proofs.lemmas.Bool.Decides.{nat_tests}
use Rattle.integers.specs.Kit.{refl, ap, ◌∙◌, cond, List, ℕ, ltb, ℤ, pos, nat_abs}
use native.Mathlib.Nat.{lt_of_lt_of_le}
use native.Mathlib.Omega.{arith}
use borrow.Author.Rules.{rules}
use Rattle.integers.proofs.Signed.{in32, read_i32}
use Rattle.limits.specs.Limits.{coefficient_limit}
use Rattle.to_floats.specs.Preconditions.{BlockInLimit}
use Rattle.summary.specs.Summary.{magnitude_at}
use Rattle.to_floats.specs.ToFloats.{coefficient_at}
use Rattle.to_floats.proofs.Acceptance.{small}
use Rattle.summary.proofs.Magnitudes.{Largest, largest_more, largest-all}
use Rattle.summary.proofs.largest_magnitude.Goals as goal

-- the larger of two of them
next : (k a : ℕ) → k ≤ coefficient_limit → a ≤ coefficient_limit → {m x r : ℤ} → m ≡ pos k → x ≡ pos a → r ≡ int_max m (in32 x)
    → in32 r ≡ pos (cond (ltb k a) a k)
next k a h l {m} {x} {r} d e f = grind (arith, ints, nat_tests)

-- what the loop keeps is the magnitude of a coefficient
limited : {y : List ℤ} {p m : ℕ} → BlockInLimit y → Largest y p m → m ≤ coefficient_limit
limited {y} W K = rw K.best_value.has (small y W K.best_value.index (lt_of_lt_of_le K.best_value.best.below K.room))

pub loop-p-preserved : goal.loop-p-preserved
loop-p-preserved c =
    let y = c.args.coefficients.now in
    let p = c.loop-p.p in
    let kept = c.loop-p.invariant in
    let read = read_i32 (coefficient_at y p) (search rules) in
    let made : c.abs.result ≡ pos (magnitude_at y p) = c.abs.ensures.value ∙ ap (λ z. pos (nat_abs z)) read in
    let e = next _ (magnitude_at y p) (limited c.requires kept.1) (small y c.requires p (omega arith)) kept.0 made c.max-m.ensures.value in
    rw e (refl, largest_more y (omega arith) kept.1)

pub returns : goal.returns
returns c =
    let y = c.args.coefficients.now in
    let kept = c.loop-p.invariant in
    kept.0 ∙ ap pos (largest-all y (omega arith) kept.1)
