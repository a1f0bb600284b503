-- The job `summary` (02, request 4), for any numbers and any buffer.
use Rattle.std.specs.Prelude.{◌≤◌, ◌<◌, ◌-◌, Float, Result, Ok, Err}
use Rattle.integers.specs.Kit.{Bool, cond, List, ℕ, suc, ltb, ℤ, pos, nat_abs}
use Rattle.integers.specs.Search.{foremost}
use Rattle.integers.specs.Test.{every, eq_z}
use Rattle.limits.specs.Limits.{places}
use Rattle.answers.specs.Answer.{accept}
use Rattle.answers.specs.declared.Refusal.{Refusal}
use Rattle.answers.specs.Job.{Job}
use Rattle.floats.specs.Fraction.{coefficient_float, mean_grey, plus_zero}
use Rattle.to_floats.specs.ToFloats.{block_causes, coefficient_at}
use Rattle.summary.specs.declared.Grey.{Grey}
use Rattle.summary.specs.declared.Grey.TheVariants.{Flat, Textured}

-- what a call gives beside its answer: 1 of a textured block and 0 otherwise, and the floats
pub record Given : Type 0 where
  pub textured : ℕ
  pub mean : Float
  pub largest : Float

-- that of each case: `"flat" with the mean grey, or "textured" with the mean grey and the largest other coefficient`; no two cases give the same
-- (`only_grey`)
abbrev pub given : Grey → Given
given (Flat m) = record { textured = 0; mean = m; largest = plus_zero }
given (Textured m l) = record { textured = 1; mean = m; largest = l }

-- what a refused call gives: "any float beside them is plus zero"
abbrev pub zeros : Given
zeros = given (Flat plus_zero)

-- that of a call
abbrev pub given_or_zeros : Result Grey Refusal → Given
given_or_zeros (Ok g) = given g
given_or_zeros (Err e) = zeros

-- the magnitude of coefficient p
abbrev pub magnitude_at : List ℤ → ℕ → ℕ
magnitude_at y p = nat_abs (coefficient_at y p)

-- "A block is flat when its other 63 coefficients are 0"
abbrev pub is_flat : List ℤ → Bool
is_flat y = every (places - 1) (λ k. eq_z (coefficient_at y (suc k)) (pos 0))

-- "the largest other coefficient by magnitude [..] Of equal magnitudes the lowest index is taken": p is one of the other 63 places; none of these has
-- a larger magnitude, and none of these before p one as large
pub record LargestOther (y : List ℤ) (p : ℕ) : Type 0 where
  pub not_first : 0 < p
  pub in_block : p < places
  pub none_larger : (q : ℕ) → 0 < q → q < places → magnitude_at y q ≤ magnitude_at y p
  pub none_before : (q : ℕ) → 0 < q → q < p → magnitude_at y q < magnitude_at y p

-- that place, by the order of magnitudes (`largest_other`, `only-largest`)

-- coefficient q has a larger magnitude than coefficient p
abbrev pub larger : List ℤ → ℕ → ℕ → Bool
larger y q p = ltb (magnitude_at y p) (magnitude_at y q)

abbrev pub largest_place : List ℤ → ℕ
largest_place y = foremost 1 places (larger y)

-- `either "flat" [..] or "textured"`; the largest other coefficient is "given as its float, with its sign"
abbrev pub block_summary : List ℤ → Given
block_summary y =
    let mean = mean_grey (coefficient_at y 0) in
    given (cond (is_flat y) (Flat mean) (Textured mean (coefficient_float (coefficient_at y (largest_place y)))))

-- it gives this; "A refused call gives its number and place, and any float beside them is plus zero"
abbrev pub summary_job : List ℤ → Job Given
summary_job y = record { causes = block_causes y; end = accept; result = block_summary y; was = zeros }
