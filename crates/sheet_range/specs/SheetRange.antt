-- The job `sheet_range` (02, request 4), for any words.
use Rattle.std.specs.Prelude.{◌+◌, ◌-◌, Float, Result, Ok, Err}
use Rattle.integers.specs.Kit.{cond, List, ℕ, zero, suc, ℤ, length}
use Rattle.std.specs.Int.Signed.{lt_z}
use Rattle.answers.specs.declared.Refusal.{Refusal}
use Rattle.answers.specs.Answer.{accept}
use Rattle.answers.specs.Job.{Job}
use Rattle.floats.specs.Fraction.{coefficient_float, plus_zero}
use Rattle.sheet_range.specs.declared.Range.{Range}
use Rattle.sheet_checks.specs.Check.{coefficient_format, check_causes, value_at}

-- the lower of two, and the higher

abbrev pub lower : ℤ → ℤ → ℤ
lower y z = cond (lt_z z y) z y

abbrev pub higher : ℤ → ℤ → ℤ
higher y z = cond (lt_z y z) z y

-- the left fold of `pick`, which gives one of two, over the n + 1 numbers f a, ..., f (a + n)
unfoldable pub picked : (ℤ → ℤ → ℤ) → (ℕ → ℤ) → ℕ → ℕ → ℤ
picked pick f a zero = f a
picked pick f a (suc n) = pick (picked pick f a n) (f (a + suc n))

-- the least and the greatest of f a, ..., f (a + n)

abbrev pub least : (ℕ → ℤ) → ℕ → ℕ → ℤ
least = picked lower

abbrev pub greatest : (ℕ → ℤ) → ℕ → ℕ → ℤ
greatest = picked higher

-- "the lowest and highest float": of the words 1 to length - 2, between the head and the end word

abbrev pub lowest_float : List ℕ → Float
lowest_float words = coefficient_float (least (value_at words) 1 (length words - 3))

abbrev pub highest_float : List ℕ → Float
highest_float words = coefficient_float (greatest (value_at words) 1 (length words - 3))

-- of a refused call "plus zero"
abbrev pub no_range : Range
no_range = record { lowest = plus_zero; highest = plus_zero }

-- "A coefficient sheet is checked as 01 checks a sample sheet"; it gives both as one pair
abbrev pub range_job : List ℕ → Job Range
range_job words = record {
  causes = check_causes coefficient_format words;
  end = accept;
  result = record { lowest = lowest_float words; highest = highest_float words };
  was = no_range;
}

-- the pair that a call gives
abbrev pub range_given : Result Range Refusal → Range
range_given (Ok r) = r
range_given (Err e) = no_range
