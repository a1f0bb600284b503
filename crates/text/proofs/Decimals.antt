-- The digits that `io::decimal` makes of a number are those of the definition, and a number of 64 bits has at most 20; and the sign.
use Rattle.std.specs.Prelude.{◌≡◌, ◌∷◌, ◌++◌, ◌-◌, ◌^◌, ◌≤◌, ◌<◌}
use Rattle.integers.specs.Kit.{refl, sym, ap, subst, Bool, true, false, [], ℕ, zero, suc, T, ltb, ℤ, pos, negsuc, nat_abs}
use native.Mathlib.Nat.{le_trans, not-suc-le-zero, pow-le-pow_right, pow-suc}
use native.Mathlib.Decide.{dec_lt}
use native.Mathlib.Numerals.{sub-one}
use native.Mathlib.Omega.{arith}
use lib.Signed.{lt_z}
use borrow.Author.Tests.{lt-ltb, le-ltb, ltb-true, ltb-false}
use Rattle.io.specs.Digits.{last_digits, IsDigitCount}
use Rattle.integers.specs.Search.{first}
use Rattle.integers.proofs.Search.{none_below_0, first-at, first_none, before_first, at_first}
use Rattle.text.specs.Decimal.{decimal, minus, signed_decimal}

-- k + 1 digits hold n
enough : ℕ → ℕ → Bool
enough n k = ltb n (10 ^ suc k)

-- what is known where k + 1 is the fewest: n is at least 10^j for each j from 1 to k
least : (n k : ℕ) → IsDigitCount 10 1 n (suc k) → (j : ℕ) → 0 < j → j ≤ k → 10 ^ j ≤ n
least n k F j p l = let low : 10 ^ k ≤ n = rw sub-one at (F.2 (omega arith)) in le_trans (pow-le-pow_right (omega arith) l) low

pub twenty : (n r : ℕ) → n < 2 ^ 64 → IsDigitCount 10 1 n r → r ≤ 20
twenty n zero h F = omega arith
twenty n (suc k) h F = go (dec_lt k 20)
  where
    go : Dec (k < 20) → suc k ≤ 20
    go (yes p) = p
    go (no q) = let high : 10 ^ 20 ≤ n = least n k F 20 (omega arith) (omega arith) in omega arith

less_power : (k : ℕ) → k < 10 ^ k
less_power zero = omega arith
less_power (suc k) = omega (arith, less_power k, pow-suc 10 k)

-- the search in the definition ends there
at_fewest : (n k : ℕ) → IsDigitCount 10 1 n (suc k) → first n (enough n) ≡ k
unfolding enough
at_fewest n zero F = go n F
  where
    go : (n : ℕ) → IsDigitCount 10 1 n 1 → first n (λ k. ltb n (10 ^ suc k)) ≡ 0
    go zero F = first_none zero (λ k. ltb zero (10 ^ suc k)) none_below_0
    go (suc n) F = first-at (suc n) (λ k. ltb (suc n) (10 ^ suc k)) zero (omega arith) none_below_0 (lt-ltb (suc n) (10 ^ 1) F.1)
at_fewest n (suc k) F =
    let high : 10 ^ suc k ≤ n = least n (suc k) F (suc k) (omega arith) (omega arith) in
    let below : suc k < n = omega (arith, less_power (suc k)) in
    first-at n (enough n) (suc k) below
    (record { room = omega arith; fails = λ j l. le-ltb n (10 ^ suc j) (least n (suc k) F (suc j) (omega arith) l) }) (lt-ltb n (10 ^ suc (suc k)) F.1)

pub fewest : (n r : ℕ) → IsDigitCount 10 1 n r → last_digits 10 r n ≡ decimal n
unfolding decimal enough
fewest n zero F = absurd (omega arith)
fewest n (suc k) F = ap (λ j. last_digits 10 (suc j) n) (sym (at_fewest n k F))

-- and what the definition takes is the fewest
pub fewest_held : (n : ℕ) → IsDigitCount 10 1 n (suc (first n (λ k. ltb n (10 ^ suc k))))
fewest_held n = (omega arith, go (dec_lt k n), lowest k refl)
  where
    k : ℕ
    k = first n (λ k. ltb n (10 ^ suc k))

    go : Dec (k < n) → n < 10 ^ suc k
    go (yes h) = ltb-true n (10 ^ suc k) (at_first n (λ k. ltb n (10 ^ suc k)) h)
    go (no h) = omega (arith, less_power (suc k))

    lowest : (j : ℕ) → j ≡ k → 1 < suc k → 10 ^ (suc k - 1) ≤ n
    lowest zero e h = absurd (omega arith)
    lowest (suc j) e h =
        let last : suc k - 1 ≡ suc j = omega arith in
        rw last (ltb-false n (10 ^ suc j) (before_first n (λ k. ltb n (10 ^ suc k)) j (omega arith)))

-- with a sign: by the magnitude of z

pub below_zero : (z : ℤ) → lt_z z (pos 0) ≡ true → (minus ∷ []) ++ decimal (nat_abs z) ≡ signed_decimal z
unfolding signed_decimal
below_zero (pos n) e = absurd (not-suc-le-zero (ltb-true n 0 e))
below_zero (negsuc n) e = refl

pub from_zero : (z : ℤ) → lt_z z (pos 0) ≡ false → decimal (nat_abs z) ≡ signed_decimal z
unfolding signed_decimal
from_zero (pos n) e = refl
from_zero (negsuc n) e = absurd (subst T e tt)
