-- The check of a sheet of any format (01, "Sheets" and "Why a set or sheet is turned back").
use Rattle.std.specs.Prelude.{◌&&◌, ◌||◌, ◌∷◌, ◌++◌, ◌+◌, ◌*◌, Option, Some, None}
use Rattle.integers.specs.Kit.{Bool, cond, not, List, [], ℕ, suc, eqb, ltb, leb, ℤ, pos, neg_ℤ, length, get_or}
use Rattle.integers.specs.Range.{outside}
use Rattle.limits.specs.Limits.{places, blocks_limit, coefficient_limit, lowest_sample, highest_sample}
use Rattle.words.specs.Word.{across, coefficient_head_kind, coefficient_kind, down, end_kind, kind, payload, sample_head_kind, sample_kind, value}
use Rattle.answers.specs.Answer.{Cause, search, unless, unless_at}
use Rattle.sheet_checks.specs.declared.Format.{Format}
use Rattle.sheet_checks.specs.declared.Values.{Values}
use Rattle.sheet_checks.specs.declared.Values.TheVariants.{Samples, Coefficients}

-- the number that refuses a value out of its format's range
abbrev pub out_of_range : Values → ℕ
out_of_range Samples = 2
out_of_range Coefficients = 11

-- a value is out of the range of a format
abbrev pub outside_format : Format → ℤ → Bool
outside_format f = outside f.range.lowest f.range.highest

-- the format of a sample sheet
abbrev pub sample_format : Format
sample_format =
    record { head = sample_head_kind; body = sample_kind; values = Samples; range = record { lowest = lowest_sample; highest = highest_sample } }

-- the format of a coefficient sheet that comes in from outside (02, request 4): "with kinds 4 and 3; a payload beyond the limit is 11"
abbrev pub coefficient_format : Format
coefficient_format =
    record {
      head = coefficient_head_kind;
      body = coefficient_kind;
      values = Coefficients;
      range = record { lowest = neg_ℤ (pos coefficient_limit); highest = pos coefficient_limit };
    }

-- word i of a sheet
abbrev pub word_at : List ℕ → ℕ → ℕ
word_at words i = get_or words i 0

-- the value in its payload
abbrev pub value_at : List ℕ → ℕ → ℤ
value_at words i = value (payload (word_at words i))

-- how many blocks a sheet's head announces
abbrev pub blocks : List ℕ → ℕ
blocks words = across (word_at words 0) * down (word_at words 0)

-- "Both sizes are at least 1 and their product at most 128"
abbrev pub sizes_allowed : ℕ → Bool
sizes_allowed w = leb 1 (across w) && (leb 1 (down w) && leb (across w * down w) blocks_limit)

-- "A sheet has 2 + 64 × blocks words"
abbrev pub size_of : ℕ → ℕ
size_of n = 2 + places * n

-- no cause 6: there are words, the first is of the kind of heads, and its sizes are allowed
unfoldable pub has_head : ℕ → List ℕ → Bool
has_head k words = ltb 0 (length words) && (eqb (kind (word_at words 0)) k && sizes_allowed (word_at words 0))

-- the blocks of a sheet that has a head of the kind k
abbrev pub allowed_blocks : ℕ → List ℕ → Option ℕ
allowed_blocks k words = cond (has_head k words) (Some (blocks words)) None

-- the causes 6 and 7 of a sheet as a whole, in this order; a wrong count is named by the count given
abbrev pub shape : Format → List ℕ → List Cause
shape f words = unless (has_head f.head words) 6 ∷ unless_at (length words) (eqb (length words) (size_of (blocks words))) 7 ∷ []

-- a word of the body has a fault, and the cause of one that has: "kind before value"

unfoldable pub body_faulty : Format → ℕ → Bool
body_faulty f w = not (eqb (kind w) f.body) || outside_format f (value (payload w))

unfoldable pub body_cause : Format → ℕ → ℕ
body_cause f w = cond (eqb (kind w) f.body) (out_of_range f.values) 7

-- the same of the end word of n blocks

unfoldable pub end_faulty : ℕ → ℕ → Bool
end_faulty n w = not (eqb (kind w) end_kind) || not (eqb (payload w) n)

unfoldable pub end_cause : ℕ → ℕ
end_cause w = cond (eqb (kind w) end_kind) 8 7

-- the same of word i: the head's causes are asked before, and the last word is the end word

unfoldable pub faulty : Format → List ℕ → ℕ → Bool
faulty f words i =
    ltb 0 i && cond (eqb (suc i) (length words)) (end_faulty (blocks words) (word_at words i)) (body_faulty f (word_at words i))

unfoldable pub cause_at : Format → List ℕ → ℕ → ℕ
cause_at f words i = cond (eqb (suc i) (length words)) (end_cause (word_at words i)) (body_cause f (word_at words i))

-- "then the first faulty word"
abbrev pub contents : Format → List ℕ → Cause
contents f words = search (length words) (faulty f words) (λ i. record { number = cause_at f words i; place = i })

-- the causes of a sheet, for a job that asks for no others
abbrev pub check_causes : Format → List ℕ → List Cause
check_causes f words = shape f words ++ contents f words ∷ []
