-- Whole numbers in decimal, as text in ASCII (01, "Sheets"; 02, request 5). First what the text of a number is, for the theorems: `decimal_text` and
-- `signed_text` say that the definitions after it give it, and `only-decimal` and `only-signed` that no other text is one.
use Rattle.std.specs.Prelude.{◌≡◌, ◌∷◌, ◌+◌, ◌-◌, ◌*◌, ◌^◌, ◌≤◌, ◌<◌}
use Rattle.integers.specs.Kit.{List, [], ℕ, suc, ltb, ℤ, pos, negsuc, length, get_or}
use Rattle.io.specs.Digits.{last_digits}
use Rattle.integers.specs.Search.{first}

-- in ASCII the digits 0 to 9 are 48 to 57, and the minus sign is 45

abbrev pub minus : ℕ
minus = 45

-- the number that digits stand for, the most significant first, after others that stand for n
abbrev pub read : ℕ → List ℕ → ℕ
read n [] = n
read n (c ∷ text) = read (10 * n + (c - 48)) text

-- n in decimal: digits that stand for n, at least one, and no 0 in front
pub record Decimal (n : ℕ) (text : List ℕ) : Type 0 where
  pub some_digit : 0 < length text
  pub only_digits : (i : ℕ) → i < length text → (48 ≤ get_or text i 0) × (get_or text i 0 ≤ 57)
  pub no_zero_before : 1 < length text → 48 < get_or text 0 0
  pub stands_for : read 0 text ≡ n

-- "in decimal with a minus sign below zero": and so none before 0
pub data SignedDecimal : ℤ → List ℕ → Type 0 where
  not_below : {n : ℕ} {text : List ℕ} → Decimal n text → SignedDecimal (pos n) text
  below : {n : ℕ} {text : List ℕ} → Decimal (suc n) text → SignedDecimal (negsuc n) (minus ∷ text)

-- n in the fewest digits that hold it, at least one: k + 1 digits, for the lowest k with n < 10^(k+1)
unfoldable pub decimal : ℕ → List ℕ
decimal n = last_digits 10 (suc (first n (λ k. ltb n (10 ^ suc k)))) n

unfoldable pub signed_decimal : ℤ → List ℕ
signed_decimal (pos n) = decimal n
signed_decimal (negsuc n) = minus ∷ decimal (suc n)
