-- Words of a sheet (01, "Sheets"): "a word has 32 bits, its top four bits the kind, the other 28 the payload".
use Rattle.std.specs.Prelude.{◌+◌, ◌-◌, ◌*◌, ◌/◌, ◌%◌, ◌^◌, ◌-ℤ◌}
use Rattle.integers.specs.Kit.{cond, ℕ, ltb, ℤ, pos, nat_abs}
use Rattle.std.specs.Int.Signed.{lt_z}
use Rattle.words.specs.declared.Kind.{Kind}
use Rattle.words.specs.declared.Kind.TheVariants.{SampleHead, Sample, Coefficient, CoefficientHead, End}

-- how many payloads there are
abbrev pub payloads : ℕ
payloads = 2 ^ 28

abbrev pub kind : ℕ → ℕ
kind w = w / payloads

abbrev pub payload : ℕ → ℕ
payload w = w % payloads

-- the word of a kind k and a payload p
abbrev pub word : ℕ → ℕ → ℕ
word k p = k * payloads + p

-- 01's table of kinds

abbrev pub sample_head_kind : ℕ
sample_head_kind = 1

abbrev pub sample_kind : ℕ
sample_kind = 2

abbrev pub coefficient_kind : ℕ
coefficient_kind = 3

abbrev pub coefficient_head_kind : ℕ
coefficient_head_kind = 4

abbrev pub end_kind : ℕ
end_kind = 15

-- the number of a kind
abbrev pub number : Kind → ℕ
number SampleHead = sample_head_kind
number Sample = sample_kind
number Coefficient = coefficient_kind
number CoefficientHead = coefficient_head_kind
number End = end_kind

-- "Values in payloads are 28-bit two's complement"

-- the limit L of the values that a payload can hold, which go from -L to L - 1
abbrev pub value_limit : ℕ
value_limit = 2 ^ 27

-- the value that a payload stands for
unfoldable pub value : ℕ → ℤ
value p = cond (ltb p value_limit) (pos p) (pos p -ℤ pos payloads)

-- the payload that stands for a value from -2^27 to 2^27 - 1
unfoldable pub payload_of : ℤ → ℕ
payload_of z = cond (lt_z z (pos 0)) (payloads - nat_abs z) (nat_abs z)

-- "blocks across in bits 27 to 14, blocks down in bits 13 to 0", of a head

abbrev pub across : ℕ → ℕ
across w = payload w / 2 ^ 14

abbrev pub down : ℕ → ℕ
down w = payload w % 2 ^ 14
