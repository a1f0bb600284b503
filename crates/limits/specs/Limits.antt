-- The limits of 01 ("Sheets", "Rounding at a width", "Why a set or sheet is turned back"), as functions of the number of dimensions d of a block
-- and of the sample limit S, and those of 02. The constants of the code, in src/, are the same.
use Rattle.std.specs.Prelude.{◌+◌, ◌-◌, ◌*◌, ◌/◌, ◌^◌}
use Rattle.integers.specs.Kit.{ℕ, ℤ, pos, neg_ℤ}

-- the places of a block, each of a sample, an element and a coefficient
abbrev pub places_in : ℕ → ℕ
places_in d = 8 ^ d

-- the components of all its elements
abbrev pub components_in : ℕ → ℕ
components_in d = 8 * places_in d

-- the largest sum of the magnitudes of an element's components, for samples of magnitudes up to S: a block's elements do not exceed it (`bound` of `dct`)
abbrev pub magnitudes_limit_in : ℕ → ℕ → ℕ
magnitudes_limit_in S d = S * (8 * 16 ^ (d - 1))

-- a coefficient in eighths is the element divided by 2^h: an element is 4^d times the DCT value, and a coefficient 8 times, for d from 2 on
abbrev pub halvings_in : ℕ → ℕ
halvings_in d = 2 * d - 3

-- the E of the distance that 01 promises for rounding, 1/2 + E/2^b: each table number is off by at most 1/2, so N by at most half of the magnitudes L, and
-- N/2^(b+h) by L/2^(h+1) over 2^b. The division is exact, since L is S · 2^(4d-1).
abbrev pub distance_numerator_in : ℕ → ℕ → ℕ
distance_numerator_in S d = magnitudes_limit_in S d / 2 ^ (halvings_in d + 1)

-- what is in force

-- the largest magnitude of a sample, S (02, request 6)
abbrev pub sample_limit : ℕ
sample_limit = 32768

-- the range of samples, -S to S - 1: "-32,768 to 32,767"

abbrev pub lowest_sample : ℤ
lowest_sample = neg_ℤ (pos sample_limit)

abbrev pub highest_sample : ℤ
highest_sample = pos (sample_limit - 1)

-- blocks of 8 by 8; `figures` has what each comes to

abbrev pub places : ℕ
places = places_in 2

abbrev pub components_size : ℕ
components_size = components_in 2

abbrev pub magnitudes_limit : ℕ
magnitudes_limit = magnitudes_limit_in sample_limit 2

abbrev pub halvings : ℕ
halvings = halvings_in 2

abbrev pub distance_numerator : ℕ
distance_numerator = distance_numerator_in sample_limit 2

-- the largest number of blocks of a sheet
abbrev pub blocks_limit : ℕ
blocks_limit = 128

-- quantization (02, request 2)

-- the largest quantization step; the smallest is 1
abbrev pub step_limit : ℕ
step_limit = 1024

-- the largest magnitude of a coefficient in eighths that comes in from outside, to be quantized or, of request 4, made a float
abbrev pub coefficient_limit : ℕ
coefficient_limit = 4194303

-- the largest magnitude of one that is dequantized: it is at most 4 × step, half of the divisor 8 × step, away from the
-- one that was quantized
abbrev pub dequantized_limit : ℕ
dequantized_limit = coefficient_limit + 4 * step_limit
