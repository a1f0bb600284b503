-- A number over a power of two as a float: it is exact, and one division makes it.
use Rattle.std.specs.Prelude.{◌≡◌, ◌+◌, ◌-◌, ◌*◌, ◌^◌, ◌≤◌, ◌<◌}
use Rattle.integers.specs.Kit.{refl, sym, ap, ◌∙◌, Bool, true, false, ℕ, suc, T, lit<, ℤ, pos, negsuc, nat_abs}
use native.Mathlib.Nat.{le_of_lt, lt_of_le_of_lt, lt_of_lt_of_le, mul_assoc, mul_comm, one-mul, mul-pos}
use native.Mathlib.Omega.{arith}
use lib.Dec.{le→leb, lt→ltb}
use lib.Ieee.{Float, nan, inf, fin, binary32, up, down, unlike, round, div, of_int, in_float as is_in_float, low, emax, prec}
use lib.Ieee.Back.{round_whole}
use lib.Ieee.Exact.{HasValue, round_exact}
use lib.Ieee.Fits.{down_pos}
use lib.Ieee.Scale.{round_same}
use lib.Pow.{pow-add, pow_mono, pow_pos, shl_lt}
use Rattle.limits.specs.Limits.{coefficient_limit}
use Rattle.floats.specs.Fraction.{negative, fraction}
pub use Rattle.floats.specs.Fraction.{exact_limit}

-- among the exact numbers are all that are within the limit of coefficients
pub few_digits : (y : ℤ) → nat_abs y ≤ coefficient_limit → nat_abs y < exact_limit
few_digits y h = lt_of_le_of_lt h (lit< tt)

-- over 2^k, for k as far as the format's smallest value reaches: finite, of the sign of y, and exactly |y| / 2^k
pub exact : (k : ℕ) (y : ℤ) → k ≤ low binary32 → nat_abs y < exact_limit → HasValue (fraction (2 ^ k) y) (negative y) (nat_abs y) (2 ^ k)
unfolding fraction
exact k y h l =
    let n = nat_abs y in
    let j = low binary32 - k in
    let all : low binary32 ≡ j + k = omega arith in
    let room : prec binary32 + j ≤ low binary32 + suc (emax binary32) = omega arith in
    let parts : 2 ^ low binary32 ≡ 2 ^ j * 2 ^ k = ap (λ e. 2 ^ e) all ∙ pow-add 2 j k in
    round_exact binary32 (negative y) n (2 ^ k) n j (pow_pos k) l (lt_of_lt_of_le (shl_lt (prec binary32) j l) (pow_mono room)) (ap (λ e. n * e) parts ∙ sym (mul_assoc n (2 ^ j) (2 ^ k)))

-- as an f32 it is a whole number, with its sign
whole : (y : ℤ) → nat_abs y < exact_limit → HasValue (of_int binary32 y) (negative y) (nat_abs y) 1
unfolding of_int
whole (pos n) h = round_whole binary32 false n (le_of_lt h)
whole (negsuc n) h = round_whole binary32 true (suc n) (le_of_lt h)

like : (s : Bool) → unlike s false ≡ s
like true = refl
like false = refl

-- the division of a whole number by 2^k
divided : (x : Float) (s : Bool) (a k : ℕ) → HasValue x s a 1 → div binary32 x (fin false 1 (pos k)) ≡ round binary32 s a (2 ^ k)
unfolding div
divided nan s a k v = absurd v
divided (inf t) s a k v = absurd v
divided (fin t m e) s a k (p, q) =
    ap (λ s. round binary32 s (m * up e * 1) (1 * 2 ^ k * down e)) (like t ∙ p)
    ∙ round_same binary32 s (m * up e * 1) (1 * 2 ^ k * down e) a (2 ^ k) (mul-pos (mul-pos (lit< tt) (pow_pos k)) (down_pos e)) (pow_pos k)
    (ap (λ z. z * 2 ^ k) q ∙ simp (mul_assoc, mul_comm, one-mul))

in_float : (y : ℤ) → nat_abs y < exact_limit → T (is_in_float binary32 y)
unfolding is_in_float
in_float (pos n) l = le→leb n exact_limit (le_of_lt l)
in_float (negsuc n) l = lt→ltb n exact_limit (le_of_lt l)

-- what the code asks and makes, of a number within the limit that is read as z
module _ {y z : ℤ} (h : nat_abs y ≤ coefficient_limit) (e : z ≡ y) where
  pub cast_asks : T (is_in_float binary32 z)
  cast_asks = rw e (in_float y (few_digits y h))

  pub made : (k : ℕ) → div binary32 (of_int binary32 z) (fin false 1 (pos k)) ≡ fraction (2 ^ k) y
  unfolding fraction
  made k = rw e (divided (of_int binary32 y) (negative y) (nat_abs y) k (whole y (few_digits y h)))
