-- `with_value` meets its contract: a value that is not negative is its own payload, and another is brought up by 2^28.
use Rattle.std.specs.Prelude.{◌≡◌, ◌-◌, ◌≤◌, ◌<◌, ◌+ℤ◌}
use Rattle.integers.specs.Kit.{sym, ap, ◌∙◌, true, ℕ, T, lit<, lit≤, ℤ, pos, nat_abs}
use native.Mathlib.Nat.{lt_trans}
use native.Mathlib.Omega.{arith}
use lib.Signed.{lt_z, non_neg}
use mir.Syntax.{w32}
use mir.Val.{Fits, SFits}
use Rattle.integers.proofs.Signed.{in32, kept}
use Rattle.words.specs.Word.{number, payloads, word, value_limit}
use Rattle.words.proofs.Packing.{payload_of-negative, payload_of_other, negative-above, negative-plus}
use Rattle.words.proofs.with_value.Goals as goal

-- z as it is read
module _ (z : ℤ) (h : nat_abs z < value_limit) where
  read : in32 z ≡ z
  read = kept w32 z (lt_trans h (lit< tt))

  -- a negative z, and the number n that is added to it
  module _ (e : lt_z (in32 z) (pos 0) ≡ true) (n : ℕ) (l : value_limit ≤ n) (u : n ≤ payloads) where
    sum : in32 z +ℤ pos n ≡ pos (n - nat_abs z)
    sum = rw read (negative-plus z n (rw read at e) (omega arith))

    sum_fits : SFits w32 (in32 z +ℤ pos n)
    sum_fits = rw sum (record { sfits = omega arith })

    sum-read : in32 (in32 z +ℤ pos n) ≡ pos (n - nat_abs z)
    sum-read = rw sum (kept w32 (pos (n - nat_abs z)) (omega arith))

    sum_cast : T (non_neg (in32 (in32 z +ℤ pos n))) × Fits w32 (nat_abs (in32 (in32 z +ℤ pos n)))
    sum_cast = rw sum-read (tt, record { fits = omega arith })

    sum_below : nat_abs (in32 (in32 z +ℤ pos n)) < payloads
    sum_below = rw sum-read (omega (arith, negative-above z (rw read at e)))

pub returns-then-z-lt0 : goal.returns-then-z-lt0
returns-then-z-lt0 c = let z = c.args.z in
    let h = c.requires in
    let e = c.if-z-lt0.true in
    let s = c.with_payload.ensures ∙ ap (λ r. word (number c.args.k) (nat_abs r)) (sum-read z h e _ (lit≤ tt) (lit≤ tt)) in
    omega (arith, s, payload_of-negative z (rw (read z h) at e))

pub returns : goal.returns
returns c = let z = c.args.z in
    let h = c.requires in
    c.with_payload-2.ensures ∙ ap (λ r. word (number c.args.k) (nat_abs r)) (read z h) ∙ ap (word (number c.args.k)) (sym (payload_of_other z (rw (read z h) at c.if-z-lt0.false)))
