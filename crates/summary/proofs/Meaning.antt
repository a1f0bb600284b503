-- What calls of summary give, in 02's words (request 4).
use Rattle.std.specs.Prelude.{◌≡◌, ◌<◌}
use Rattle.integers.specs.Kit.{refl, sym, ap, ◌∙◌, Bool, true, false, cond, List, ℕ, T, eqb, lit<, lit≤, ℤ, pos}
use native.Mathlib.Nat.{suc-ne-zero}
use lib.Ieee.{Float}
use lib.Ieee.Exact.{HasValue}
use Rattle.limits.specs.Limits.{places}
use Rattle.answers.specs.Job.{job_left, Accepts}
use Rattle.answers.proofs.Jobs.{accepted_leaves}
use Rattle.floats.specs.Fraction.{negative, coefficient_float, mean_grey, plus_zero}
use Rattle.floats.proofs.Fractions.{few_digits, exact}
use Rattle.to_floats.specs.Preconditions.{BlockInLimit}
use Rattle.summary.specs.declared.Grey.{Grey}
use Rattle.summary.specs.declared.Grey.TheVariants.{Flat, Textured}
use Rattle.summary.specs.Summary.{Given, LargestOther, given, magnitude_at, is_flat, largest_place, summary_job}
use Rattle.to_floats.specs.ToFloats.{coefficient_at}
use Rattle.to_floats.proofs.Acceptance.{small}
use Rattle.summary.proofs.Acceptance.{summary_means}
use Rattle.summary.proofs.Magnitudes.{only-largest, zeros, flat_by_zeros}

-- the floats tell every case of a summary from every other

grey_with : Given → Grey
grey_with g = cond (eqb g.textured 1) (Textured g.mean g.largest) (Flat g.mean)

there_and_back : (s : Grey) → grey_with (given s) ≡ s
unfolding grey_with
there_and_back (Flat m) = refl
there_and_back (Textured m l) = refl

pub only_grey : (s t : Grey) → given s ≡ given t → s ≡ t
only_grey s t e = sym (there_and_back s) ∙ ap grey_with e ∙ there_and_back t

-- an accepted call of summary

module _ (y : List ℤ) (h : Accepts (summary_job y)) where
  W : BlockInLimit y
  W = summary_means y h

  mean : Float
  mean = mean_grey (coefficient_at y 0)

  largest : Float
  largest = coefficient_float (coefficient_at y (largest_place y))

  -- what it gives is one of two
  two_cases : (P : Given → Type 0) → (T (is_flat y) → P (given (Flat mean))) → ((T (is_flat y) → ⊥) → P (given (Textured mean largest))) → P (job_left (summary_job y))
  unfolding mean largest
  two_cases P f g = rw (accepted_leaves (summary_job y) h) (go (is_flat y) f g)
    where
      go : (t : Bool) → (T t → P (given (Flat mean))) → ((T t → ⊥) → P (given (Textured mean largest))) → P (given (cond t (Flat mean) (Textured mean largest)))
      go true f g = f tt
      go false f g = g (λ x. x)

  -- "the mean grey is the first coefficient in eighths over 64", exactly
  pub mean_exact : HasValue (job_left (summary_job y)).mean (negative (coefficient_at y 0)) (magnitude_at y 0) 64
  unfolding mean
  mean_exact =
      let v = exact 6 (coefficient_at y 0) (lit≤ tt) (few_digits (coefficient_at y 0) (small y W 0 (lit< tt))) in
      two_cases (λ g. HasValue g.mean (negative (coefficient_at y 0)) (magnitude_at y 0) 64) (λ e. v) (λ e. v)

  -- "A block is flat when its other 63 coefficients are 0", and only then

  pub flat_means : (job_left (summary_job y)).textured ≡ 0 → (p : ℕ) → 0 < p → p < places → coefficient_at y p ≡ pos 0
  flat_means =
      two_cases (λ g. g.textured ≡ 0 → (p : ℕ) → 0 < p → p < places → coefficient_at y p ≡ pos 0) (λ e z. zeros y e) (λ e z. absurd (suc-ne-zero 0 z))

  pub zeros_flat : ((p : ℕ) → 0 < p → p < places → coefficient_at y p ≡ pos 0) → (job_left (summary_job y)).textured ≡ 0
  zeros_flat z = two_cases (λ g. g.textured ≡ 0) (λ e. refl) (λ e. absurd (e (flat_by_zeros y z)))

  pub others_textured : (p : ℕ) → 0 < p → p < places → (coefficient_at y p ≡ pos 0 → ⊥) → (job_left (summary_job y)).textured ≡ 1
  others_textured p k l x = two_cases (λ g. g.textured ≡ 1) (λ e. absurd (x (zeros y e p k l))) (λ e. refl)

  -- the largest other coefficient of a textured block, exactly, "with its sign"; of a flat one there is none, and it is plus zero

  pub largest_exact : {p : ℕ} → LargestOther y p → (job_left (summary_job y)).textured ≡ 1 → HasValue (job_left (summary_job y)).largest (negative (coefficient_at y p)) (magnitude_at y p) 8
  unfolding largest
  largest_exact {p} L =
      let v = exact 3 (coefficient_at y p) (lit≤ tt) (few_digits (coefficient_at y p) (small y W p L.in_block)) in
      two_cases (λ g. g.textured ≡ 1 → HasValue g.largest (negative (coefficient_at y p)) (magnitude_at y p) 8) (λ e z. absurd (suc-ne-zero 0 (sym z)))
      (λ e z. rw (← only-largest y L) v)

  pub flat_largest : (job_left (summary_job y)).textured ≡ 0 → (job_left (summary_job y)).largest ≡ plus_zero
  flat_largest = two_cases (λ g. g.textured ≡ 0 → g.largest ≡ plus_zero) (λ e z. refl) (λ e z. absurd (suc-ne-zero 0 z))
