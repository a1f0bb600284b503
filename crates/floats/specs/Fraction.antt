-- The viewer's 32-bit floats by their values (02, request 4), in the words of the library on IEEE 754. Of numbers below `exact_limit` in magnitude, and
-- over 2^k with k at most 149, each is finite and exactly the fraction that it stands for, with its sign (`exact`), and their order is that of the
-- numbers (`in_order`).
use Rattle.std.specs.Prelude.{◌^◌, Float}
use Rattle.integers.specs.Kit.{Bool, false, not, ℕ, ℤ, pos, nat_abs}
use Rattle.std.specs.Float.{fin, binary32}
use Rattle.std.specs.Float.Ieee.{round, prec}
use Rattle.std.specs.Int.Signed.{non_neg}

-- y is below zero: the sign of its float
abbrev pub negative : ℤ → Bool
negative y = not (non_neg y)

-- the float nearest to y over d; "zero is plus zero"
unfoldable pub fraction : ℕ → ℤ → Float
fraction d y = round binary32 (negative y) (nat_abs y) d

-- the numbers whose fractions are exact: those below 2^24 in magnitude
abbrev pub exact_limit : ℕ
exact_limit = 2 ^ prec binary32

-- "a float that is exactly its eighths divided by 8"
abbrev pub coefficient_float : ℤ → Float
coefficient_float = fraction 8

-- "the mean grey is the first coefficient in eighths over 64"
abbrev pub mean_grey : ℤ → Float
mean_grey = fraction 64

-- "any float beside them is plus zero"
abbrev pub plus_zero : Float
plus_zero = fin false 0 (pos 0)
