-- The decimal of a number is its text, and no other text is.
use Rattle.std.specs.Prelude.{◌≡◌, ◌∷◌, ◌++◌, ◌+◌, ◌-◌, ◌*◌, ◌/◌, ◌%◌, ◌^◌, ◌≤◌, ◌<◌}
use Rattle.integers.specs.Kit.{refl, sym, ap, ◌∙◌, List, [], ℕ, zero, suc, ℤ, pos, negsuc, length, get_or, take}
use native.Mathlib.Nat.{le_trans, lt_of_lt_of_le, mul_assoc, mul_comm, mul-le-mul_right, pow-suc}
use native.Mathlib.Decide.{dec_lt}
use native.Mathlib.Numerals.{sub-one}
use native.Mathlib.Omega.{arith}
use lib.ListN.{length-append, length-take, get_or-append}
use lib.Seq.{get_or_at, get_or-take, take_all, take-suc}
use borrow.Author.Tests.{lt-ltb}
use Rattle.io.specs.Digits.{last_digits, hex_digit_ascii, IsDigitCount}
use Rattle.text.specs.Decimal.{read, Decimal, SignedDecimal, not_below, below, decimal, minus, signed_decimal}
use Rattle.text.proofs.Decimals.{fewest, fewest_held}

-- the digits of a number

glyph_digit : (d : ℕ) → d < 10 → hex_digit_ascii d ≡ 48 + d
glyph_digit d h = rw (lt-ltb d 10 h)

length_digits : (k n : ℕ) → length (last_digits 10 k n) ≡ k
length_digits zero n = refl
length_digits (suc k) n = length-append (last_digits 10 k (n / 10)) (hex_digit_ascii (n % 10) ∷ []) ∙ rw (length_digits k (n / 10)) (omega arith)

-- a digit more at the end
read_more : (n : ℕ) (t : List ℕ) (c : ℕ) → read n (t ++ (c ∷ [])) ≡ 10 * read n t + (c - 48)
read_more n [] c = refl
read_more n (d ∷ t) c = read_more (10 * n + (d - 48)) t c

read_digits : (k n : ℕ) → n < 10 ^ k → read 0 (last_digits 10 k n) ≡ n
read_digits zero n h = omega arith
read_digits (suc k) n h =
    let less : n / 10 < 10 ^ k = omega (arith, pow-suc 10 k) in
    read_more 0 (last_digits 10 k (n / 10)) (hex_digit_ascii (n % 10)) ∙ rw (read_digits k (n / 10) less, glyph_digit (n % 10) (omega arith)) (omega arith)

-- digit i is one
abbrev IsDigit : List ℕ → ℕ → Type 0
IsDigit text i = (48 ≤ get_or text i 0) × (get_or text i 0 ≤ 57)

digits_are : (k n i : ℕ) → i < k → IsDigit (last_digits 10 k n) i
digits_are zero n i h = absurd (omega arith)
digits_are (suc k) n i h = go (dec_lt i k) (digits_are k (n / 10) i)
  where
    init : List ℕ
    init = last_digits 10 k (n / 10)

    go : Dec (i < k) → (i < k → IsDigit init i) → IsDigit (init ++ (hex_digit_ascii (n % 10) ∷ [])) i
    go (yes l) rest = rw (get_or-append init (hex_digit_ascii (n % 10) ∷ []) 0 i (rw (length_digits k (n / 10)) l)) (rest l)
    go (no l) rest =
        let last : length init ≡ i = length_digits k (n / 10) ∙ omega arith in
        rw (get_or_at init (hex_digit_ascii (n % 10)) [] 0 i last, glyph_digit (n % 10) (omega arith)) (omega arith, omega arith)

first_digit : (k n : ℕ) → 10 ^ k ≤ n → n < 10 ^ suc k → 48 < get_or (last_digits 10 (suc k) n) 0 0
first_digit zero n low high = rw (glyph_digit (n % 10) (omega arith)) (omega arith)
first_digit (suc k) n low high =
    let init = last_digits 10 (suc k) (n / 10) in
    rw (get_or-append init (hex_digit_ascii (n % 10) ∷ []) 0 0 (rw (length_digits (suc k) (n / 10)) (omega arith)))
    (first_digit k (n / 10) (omega (arith, pow-suc 10 k)) (omega (arith, pow-suc 10 (suc k))))

-- the decimal of n is n's text
pub decimal_text : (n : ℕ) → Decimal n (decimal n)
unfolding decimal
decimal_text n = of _ (fewest_held n)
  where
    of : (k : ℕ) → IsDigitCount 10 1 n (suc k) → Decimal n (last_digits 10 (suc k) n)
    of k F = record {
      some_digit = rw (length_digits (suc k) n) (omega arith);
      only_digits = λ i l. digits_are (suc k) n i (rw (length_digits (suc k) n) at l);
      no_zero_before = λ l. let more : 1 < suc k = rw (length_digits (suc k) n) at l in first_digit k n (rw sub-one at (F.2 more)) F.1;
      stands_for = read_digits (suc k) n F.1;
    }

-- and no other text is: of text in digits, the number that it stands for is within its places

one_place : (a k : ℕ) → a * 10 * 10 ^ k ≡ a * 10 ^ suc k
one_place a k = mul_assoc a 10 (10 ^ k) ∙ ap (λ x. a * x) (mul_comm 10 (10 ^ k) ∙ sym (pow-suc 10 k))

upper : (n : ℕ) (t : List ℕ) → ((i : ℕ) → i < length t → IsDigit t i) → read n t < (n + 1) * 10 ^ length t
upper n [] d = omega arith
upper n (c ∷ t) d =
    let (low, high) = d 0 (omega arith) in
    let more : 10 * n + (c - 48) + 1 ≤ (n + 1) * 10 = omega arith in
    lt_of_lt_of_le (upper (10 * n + (c - 48)) t (λ i h. d (suc i) (omega arith))) (rw (one_place (n + 1) (length t)) at (mul-le-mul_right (10 ^ length t) more))

lower : (n : ℕ) (t : List ℕ) → n * 10 ^ length t ≤ read n t
lower n [] = omega arith
lower n (c ∷ t) =
    let more : n * 10 ≤ 10 * n + (c - 48) = omega arith in
    le_trans (rw (one_place n (length t)) at (mul-le-mul_right (10 ^ length t) more)) (lower (10 * n + (c - 48)) t)

-- a text in k digits has the digits of its number
as_digits : (k : ℕ) (t : List ℕ) → length t ≡ k → ((i : ℕ) → i < k → IsDigit t i) → t ≡ last_digits 10 k (read 0 t)
as_digits zero [] e d = refl
as_digits zero (c ∷ t) e d = absurd (omega arith)
as_digits (suc k) t e d =
    let c = get_or t k 0 in
    let init = take k t in
    let split : t ≡ init ++ (c ∷ []) = sym (take_all (suc k) t (omega arith)) ∙ take-suc t k 0 (omega arith) in
    let said : read 0 t ≡ 10 * read 0 init + (c - 48) = ap (read 0) split ∙ read_more 0 init c in
    let (low, high) = d k (omega arith) in
    let tens : read 0 t / 10 ≡ read 0 init = omega arith in
    let ones : hex_digit_ascii (read 0 t % 10) ≡ c = glyph_digit (read 0 t % 10) (omega arith) ∙ omega arith in
    let rest = as_digits k init (length-take k t ∙ omega arith) (λ i h. rw (get_or-take k t i 0 h) (d i (omega arith))) in
    split ∙ ap (λ l. l ++ (c ∷ [])) rest ∙ rw (tens, ones)

pub only-decimal : {n : ℕ} {t : List ℕ} → Decimal n t → t ≡ decimal n
only-decimal {n} {t} D =
    as_digits (length t) t refl D.only_digits ∙ ap (last_digits 10 (length t)) D.stands_for ∙ fewest n (length t) (few t D)
  where
    few : (t : List ℕ) → Decimal n t → IsDigitCount 10 1 n (length t)
    few [] D = absurd (omega (arith, D.some_digit))
    few (c ∷ t) D =
        let d = 10 * 0 + (c - 48) in
        let high : n < 10 ^ length (c ∷ t) = omega (arith, upper 0 (c ∷ t) D.only_digits, D.stands_for) in
        let low : 1 < length (c ∷ t) → 10 ^ length t ≤ n = λ h.
        let first : 1 ≤ d = omega (arith, D.no_zero_before h) in
        omega (arith, mul-le-mul_right (10 ^ length t) first, lower d t, D.stands_for) in
        (omega arith, high, λ h. rw sub-one (low h))

-- with a sign

pub signed_text : (z : ℤ) → SignedDecimal z (signed_decimal z)
unfolding signed_decimal
signed_text (pos n) = not_below (decimal_text n)
signed_text (negsuc n) = below (decimal_text (suc n))

pub only-signed : {z : ℤ} {t : List ℕ} → SignedDecimal z t → t ≡ signed_decimal z
unfolding signed_decimal
only-signed (not_below D) = only-decimal D
only-signed (below D) = ap (λ l. minus ∷ l) (only-decimal D)
