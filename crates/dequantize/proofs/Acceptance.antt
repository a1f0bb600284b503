-- Which calls of dequantize are accepted: those with 64 values, 64 steps in range, room for 64 coefficients, and no product beyond its limit. And what a
-- search among the products says of the values.
use Rattle.std.specs.Prelude.{◌≡◌, ◌∷◌, ◌<◌, Option, Some, None}
use Rattle.integers.specs.Kit.{ap, subst, ◌∙◌, cond, List, [], ℕ, T, ltb, lit<, ℤ, pos, length, get_or}
use Rattle.integers.specs.Range.{beyond, beyond_at}
use Rattle.integers.specs.Search.{found}
use Rattle.integers.proofs.Search.{first_ext}
use Rattle.integers.proofs.Tables.{length-table, get_d_table}
use Rattle.limits.specs.Limits.{places, dequantized_limit}
use Rattle.answers.specs.Answer.{accept, accepted, answered, lowest}
use Rattle.answers.proofs.Causes as causes
use Rattle.answers.specs.Job.{job_returned, Accepts}
use Rattle.dequantize.specs.Dequantize.{dequantized_at, dequantized_beyond_at, dequantized_coefficients, dequantize_job}
use Rattle.dequantize.specs.Narrow.{Narrow}
use Rattle.quantize.specs.Preconditions.{PlacesReady}
use Rattle.quantize.proofs.Acceptance.{accepts, means}

module _ (q : List ℤ) (s : List ℕ) (y : List ℤ) where
  pub dequantize_accepts : PlacesReady (dequantized_beyond_at q s) (length q) s (length y) → job_returned (dequantize_job q s y) ≡ accept
  dequantize_accepts = accepts (dequantized_beyond_at q s) (length q) s (dequantize_job q s y).result y

  pub dequantize_means : Accepts (dequantize_job q s y) → PlacesReady (dequantized_beyond_at q s) (length q) s (length y)
  dequantize_means = means (dequantized_beyond_at q s) (length q) s (dequantize_job q s y).result y

-- z holds the products

module _ (q : List ℤ) (s : List ℕ) {z : List ℤ} (made : z ≡ dequantized_coefficients q s) where
  size : length z ≡ places
  size = ap length made ∙ length-table places (dequantized_at q s)

  same : (p : ℕ) → p < places → beyond_at dequantized_limit z p ≡ dequantized_beyond_at q s p
  same p l = ap (beyond dequantized_limit) (ap (λ z. get_or z p (pos 0)) made ∙ get_d_table places (dequantized_at q s) (pos 0) p l)

  pub searched : {o : Option ℕ} → o ≡ found (length z) (beyond_at dequantized_limit z) → o ≡ found places (dequantized_beyond_at q s)
  searched h =
      h ∙ ap (λ n. found n (beyond_at dequantized_limit z)) size
      ∙ ap (λ i. cond (ltb i places) (Some i) None) (first_ext places (beyond_at dequantized_limit z) (dequantized_beyond_at q s) same)

  -- where none is beyond the limit
  pub narrow : accept ≡ answered (lowest places (dequantized_beyond_at q s) 11 ∷ []) accept → Narrow z
  narrow h =
      let passed = causes.accepted_means (lowest places (dequantized_beyond_at q s) 11 ∷ []) accept ((λ i f. lit< tt), tt) (subst (λ r. T (accepted r)) h tt) in
      record { size = size; narrow_at = λ p l. same p l ∙ passed.0 p l }
