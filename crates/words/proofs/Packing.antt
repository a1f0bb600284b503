-- Packing and unpacking are inverse, on the ranges of kinds, payloads, values and sizes.
use Rattle.std.specs.Prelude.{◌≡◌, ◌+◌, ◌-◌, ◌*◌, ◌%◌, ◌^◌, ◌≤◌, ◌<◌, ◌+ℤ◌, ◌-ℤ◌}
use Rattle.integers.specs.Kit.{refl, sym, ap, ◌∙◌, true, false, ℕ, suc, lit<, ℤ, pos, negsuc, neg_ℤ, nat_abs}
use Prim.Native.Nat.{zero-le}
use native.Mathlib.Decide.{dec_lt}
use native.Mathlib.Nat.{not-suc-le-zero, lt_of_le_of_lt}
use native.Mathlib.Omega.{arith}
use lib.Signed.{lt_z, mag, nat_abs-le}
use borrow.Author.Tests.{lt-ltb, le-ltb, ltb-true}
use Rattle.integers.specs.Range.{outside}
use Rattle.integers.proofs.Ranges.{inside_mag, mag_inside}
use Rattle.words.specs.Word.{payloads, kind, payload, word, value_limit, value, payload_of, across, down}

-- the kind and the payload of a word

pub kind-word : (k p : ℕ) → p < payloads → kind (word k p) ≡ k
kind-word k p h = omega arith

pub payload-word : (k p : ℕ) → p < payloads → payload (word k p) ≡ p
payload-word k p h = omega arith

pub word_of-parts : (w : ℕ) → word (kind w) (payload w) ≡ w
word_of-parts w = omega arith

pub payload-below : (w : ℕ) → payload w < payloads
payload-below w = omega arith

-- the sizes in a head, a across and d down

pub across-word : (k a d : ℕ) → a < 2 ^ 14 → d < 2 ^ 14 → across (word k (a * 2 ^ 14 + d)) ≡ a
across-word k a d h l = omega arith

pub down_word : (k a d : ℕ) → a < 2 ^ 14 → d < 2 ^ 14 → down (word k (a * 2 ^ 14 + d)) ≡ d
down_word k a d h l = omega arith

pub sizes_of_parts : (w : ℕ) → across w * 2 ^ 14 + down w ≡ payload w
sizes_of_parts w = omega arith

-- values: -2^27 to 2^27 - 1

abbrev pub InRange : ℤ → Type 0
InRange z = outside (neg_ℤ (pos value_limit)) (pos (value_limit - 1)) z ≡ false

pub small_in_range : (z : ℤ) → nat_abs z < value_limit → InRange z
small_in_range (pos n) h = mag_inside (value_limit - 1) (pos n) (omega arith)
small_in_range (negsuc n) h = mag_inside (value_limit - 1) (negsuc n) (omega arith)

-- the two halves: payloads without the sign bit, and with it

value_low : (p : ℕ) → p < value_limit → value p ≡ pos p
unfolding value
value_low p h = rw (lt-ltb p value_limit h) refl

value_high : (p : ℕ) → value_limit ≤ p → value p ≡ pos p -ℤ pos payloads
unfolding value
value_high p h = rw (le-ltb p value_limit h) refl

value-negsuc : (p : ℕ) → value_limit ≤ p → p < payloads → value p ≡ negsuc (payloads - suc p)
value-negsuc p h l = value_high p h ∙ rw (lt-ltb p payloads l) refl

-- how many values are negative; and of the value of a payload p how many are lower

abbrev pub negatives : ℕ
negatives = payloads - value_limit

abbrev pub rank : ℕ → ℕ
rank p = (p + negatives) % payloads

-- a value by its rank
pub value_ranked : (p : ℕ) → p < payloads → pos (rank p) -ℤ pos negatives ≡ value p
value_ranked p h = go (dec_lt p value_limit)
  where
    go : Dec (p < value_limit) → pos (rank p) -ℤ pos negatives ≡ value p
    go (yes l) =
        let e : rank p ≡ p + negatives = omega arith in
        rw (e, le-ltb (p + negatives) negatives (omega arith)) (ap pos (omega arith) ∙ sym (value_low p l))
    go (no l) =
        let e : rank p ≡ p - value_limit = omega arith in
        rw (e, lt-ltb (p - value_limit) negatives (omega arith)) (ap negsuc (omega arith) ∙ sym (value-negsuc p (omega arith) h))

payload_of_pos : (n : ℕ) → payload_of (pos n) ≡ n
unfolding payload_of
payload_of_pos n = rw (le-ltb n 0 zero-le) refl

payload_of-negsuc : (n : ℕ) → payload_of (negsuc n) ≡ payloads - suc n
unfolding payload_of
payload_of-negsuc n = refl

-- a negative number, and one that is not, by the code's test

pub payload_of-negative : (z : ℤ) → lt_z z (pos 0) ≡ true → payload_of z ≡ payloads - nat_abs z
unfolding payload_of
payload_of-negative z e = rw e refl

pub payload_of_other : (z : ℤ) → lt_z z (pos 0) ≡ false → payload_of z ≡ nat_abs z
unfolding payload_of
payload_of_other z e = rw e refl

pub negative-above : (z : ℤ) → lt_z z (pos 0) ≡ true → 0 < nat_abs z
negative-above (pos m) e = absurd (not-suc-le-zero (ltb-true m 0 e))
negative-above (negsuc m) e = omega arith

pub negative-plus : (z : ℤ) (n : ℕ) → lt_z z (pos 0) ≡ true → nat_abs z ≤ n → z +ℤ pos n ≡ pos (n - nat_abs z)
negative-plus (pos m) n e h = absurd (not-suc-le-zero (ltb-true m 0 e))
negative-plus (negsuc m) n e h = rw (le-ltb n (suc m) h) refl

in_range_mag : (z : ℤ) → InRange z → mag z < value_limit
in_range_mag z r = lt_of_le_of_lt (inside_mag (value_limit - 1) z r) (lit< tt)

pub value_of_payload : (z : ℤ) → InRange z → value (payload_of z) ≡ z
value_of_payload (pos n) r = rw (payload_of_pos n) (value_low n (in_range_mag (pos n) r))
value_of_payload (negsuc n) r =
    let h = in_range_mag (negsuc n) r in
    rw (payload_of-negsuc n) (value-negsuc (payloads - suc n) (omega arith) (omega arith) ∙ ap negsuc (omega arith))

pub payload_of-below : (z : ℤ) → InRange z → payload_of z < payloads
payload_of-below (pos n) r = rw (payload_of_pos n) (omega (arith, in_range_mag (pos n) r))
payload_of-below (negsuc n) r = rw (payload_of-negsuc n) (omega arith)

pub payload_of-value : (p : ℕ) → p < payloads → payload_of (value p) ≡ p
payload_of-value p l = go (dec_lt p value_limit)
  where
    go : Dec (p < value_limit) → payload_of (value p) ≡ p
    go (yes h) = rw (value_low p h) (payload_of_pos p)
    go (no h) = rw (value-negsuc p (omega arith) l) (payload_of-negsuc (payloads - suc p) ∙ omega arith)

-- the value of any payload is in this range
pub value_in_range : (p : ℕ) → p < payloads → InRange (value p)
value_in_range p l = go (dec_lt p value_limit)
  where
    go : Dec (p < value_limit) → InRange (value p)
    go (yes h) = rw (value_low p h) (small_in_range (pos p) h)
    go (no h) = rw (value-negsuc p (omega arith) l) (mag_inside (value_limit - 1) (negsuc (payloads - suc p)) (omega arith))

pub value_small : (w : ℕ) → nat_abs (value (payload w)) ≤ value_limit
value_small w = nat_abs-le (value (payload w)) (in_range_mag (value (payload w)) (value_in_range (payload w) (payload-below w)))
