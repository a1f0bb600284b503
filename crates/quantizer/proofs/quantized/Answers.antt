-- `quantized` meets its contract: the quotient of the magnitude fits, and so does its negative.
use Rattle.std.specs.Prelude.{◌≡◌, ◌≤◌, ◌<◌, ◌^◌, ◌-ℤ◌}
use Rattle.integers.specs.Kit.{ap, ◌∙◌, ℕ, lit<, ℤ, pos, neg_ℤ, nat_abs}
use native.Mathlib.Nat.{lt_of_le_of_lt}
use lib.IntN.{+ℤ_idl}
use mir.Syntax.{w32}
use mir.Val.{SFits}
use Rattle.integers.proofs.Magnitudes.{nat_abs_neg}
use Rattle.integers.proofs.Signed.{in32, read_i32, kept}
use Rattle.limits.specs.Limits.{coefficient_limit}
use Rattle.quantizer.proofs.Values.{rounded_quotient, quotient_small, quantized_positive, quantized-negative}
use Rattle.quantizer.proofs.quantized.Goals as goal

-- the magnitude a of a coefficient y, and the quotient r that the code makes of it
module _ {y : ℤ} {s : ℕ} (f : SFits w32 y) (h : nat_abs y ≤ coefficient_limit) (k : 0 < s) {a : ℕ} (e : a ≡ nat_abs (in32 y)) where
  size : a ≡ nat_abs y
  size = e ∙ ap nat_abs (read_i32 y f)

  module _ {r : ℕ} (g : r ≡ rounded_quotient a s) where
    is_quotient : r ≡ rounded_quotient (nat_abs y) s
    is_quotient = g ∙ ap (λ a. rounded_quotient a s) size

    small : r < 2 ^ 31
    small = rw is_quotient (lt_of_le_of_lt (quotient_small s k (nat_abs y) h) (lit< tt))

    read : in32 (pos r) ≡ pos (rounded_quotient (nat_abs y) s)
    read = kept w32 (pos r) small ∙ ap pos is_quotient

    negative : pos 0 -ℤ in32 (pos r) ≡ neg_ℤ (pos r)
    negative = rw (kept w32 (pos r) small) (+ℤ_idl (neg_ℤ (pos r)))

    negative_small : nat_abs (neg_ℤ (pos r)) < 2 ^ 31
    negative_small = rw (nat_abs_neg (pos r)) small

    negative-read : in32 (pos 0 -ℤ in32 (pos r)) ≡ neg_ℤ (pos (rounded_quotient (nat_abs y) s))
    negative-read = rw negative (kept w32 (neg_ℤ (pos r)) negative_small ∙ ap (λ q. neg_ℤ (pos q)) is_quotient)

pub returns-then-y-lt0 : goal.returns-then-y-lt0
returns-then-y-lt0 c = negative-read c.ranges.y c.requires.y_bound c.requires.step_nonzero c.unsigned_abs.ensures.value c.quotient-q.ensures
    ∙ quantized-negative c.args.step c.args.y (rw (read_i32 c.args.y c.ranges.y) at c.if-y-lt0.true)

pub returns : goal.returns
returns c = read c.ranges.y c.requires.y_bound c.requires.step_nonzero c.unsigned_abs.ensures.value c.quotient-q.ensures
    ∙ quantized_positive c.args.step c.args.y (rw (read_i32 c.args.y c.ranges.y) at c.if-y-lt0.false)
