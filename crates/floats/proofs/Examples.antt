-- Examples, computed from the definitions: the bits of the floats of 0, 1, -1, 8, -237 and both limits; and that zero is plus zero.
use Rattle.std.specs.Prelude.{◌≡◌, ◌∷◌}
use Rattle.integers.specs.Kit.{refl, List, [], ℕ, ℤ, pos, negsuc}
use lib.Ieee.{Float, binary32, round, to_bits}
use Rattle.floats.specs.Fraction.{fraction, coefficient_float, mean_grey, plus_zero}

-- the bits of the floats that f makes of these numbers
abbrev pub bits_of : (ℤ → Float) → List ℕ
bits_of f =
    to_bits binary32 (f (pos 0)) ∷ to_bits binary32 (f (pos 1)) ∷ to_bits binary32 (f (negsuc 0)) ∷ to_bits binary32 (f (pos 8)) ∷ to_bits binary32 (f (negsuc 236))
    ∷ to_bits binary32 (f (pos 4194303)) ∷ to_bits binary32 (f (negsuc 4194302)) ∷ []

pub example_coefficients : bits_of coefficient_float ≡ 0 ∷ 0x3e000000 ∷ 0xbe000000 ∷ 0x3f800000 ∷ 0xc1ed0000 ∷ 0x48fffffc ∷ 0xc8fffffc ∷ []
unfolding fraction round to_bits
example_coefficients = refl

pub example_mean_greys : bits_of mean_grey ≡ 0 ∷ 0x3c800000 ∷ 0xbc800000 ∷ 0x3e000000 ∷ 0xc06d0000 ∷ 0x477ffffc ∷ 0xc77ffffc ∷ []
unfolding fraction round to_bits
example_mean_greys = refl

-- "zero is plus zero"

pub zero_coefficient : coefficient_float (pos 0) ≡ plus_zero
unfolding fraction round
zero_coefficient = refl

pub zero_mean : mean_grey (pos 0) ≡ plus_zero
unfolding fraction round
zero_mean = refl
