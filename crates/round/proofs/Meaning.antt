-- What calls leave, in 02's words (request 3): halves away from zero; and, of two calls, that a negative mirrors its positive. And that no coefficient is
-- too large for the jobs that take coefficients.
use Rattle.std.specs.Prelude.{◌≡◌, ◌+◌, ◌^◌, ◌≤◌, ◌<◌}
use Rattle.integers.specs.Kit.{sym, ap, ◌∙◌, List, ℕ, lit<, ℤ, pos, nat_abs, length, get_or}
use mir.Syntax.{w32}
use mir.Val.{SFits}
use Rattle.integers.specs.Nearest.{Rounded, Away}
use Rattle.integers.proofs.Tables.{get_d_table}
use Rattle.limits.specs.Limits.{places, components_size, coefficient_limit, halvings}
use Rattle.ring.specs.Element.{negate}
use Rattle.rounding_error.specs.Width.{numerator}
use Rattle.rounding_error.proofs.Coefficient.{coefficient-rounded, only-coefficient}
use Rattle.elements.specs.Buffer.{element_at}
use Rattle.answers.specs.Answer.{accept}
use Rattle.answers.specs.Job.{job_returned, job_left, Accepts}
use Rattle.answers.proofs.Jobs.{accepted_leaves}
use Rattle.element_sets.proofs.Negated.{set_negated, negated_fits}
use Rattle.coefficients.specs.Coefficients.{coefficient_at}
use Rattle.round.specs.Round.{round_job}
use Rattle.coefficients.specs.Tables.{table_numbers}
use Rattle.coefficients.proofs.Blocks.{coefficient_size, coefficients_negated}
use Rattle.round.proofs.Acceptance.{accepts, accepted_means}

module _ (e : List ℤ) (b : ℕ) (c : List ℤ) (h : Accepts (round_job 2 e b c)) where
  module _ (p : ℕ) (l : p < places) where
    abbrev N : ℤ
    N = numerator b (table_numbers b) (element_at e p)

    coefficient-place : get_or (job_left (round_job 2 e b c)) p (pos 0) ≡ coefficient_at halvings b e p
    coefficient-place = rw (accepted_leaves (round_job 2 e b c) h) (get_d_table places (coefficient_at halvings b e) (pos 0) p l)

    -- N/2^(b+1) to the nearest: "rounding sends a half away from zero"
    pub rounded-place : Rounded Away N (2 ^ (b + halvings)) (get_or (job_left (round_job 2 e b c)) p (pos 0))
    rounded-place = rw coefficient-place (coefficient-rounded halvings b (table_numbers b) (element_at e p))

    -- and no other number is so
    pub only-place : {y : ℤ} → Rounded Away N (2 ^ (b + halvings)) y → y ≡ get_or (job_left (round_job 2 e b c)) p (pos 0)
    only-place R = only-coefficient halvings b (table_numbers b) (element_at e p) R ∙ sym coefficient-place

    -- it is within the limit of coefficients that come in from outside
    pub limit_place : nat_abs (get_or (job_left (round_job 2 e b c)) p (pos 0)) ≤ coefficient_limit
    limit_place = let (S, s, w) = accepted_means 2 e b c h in rw (accepted_leaves (round_job 2 e b c) h) (coefficient_size b S w p l)

-- a set and the set with all components negated

-- its numbers too are of 32 bits
pub negated_numbers : (e : List ℤ) (b : ℕ) (c : List ℤ) → Accepts (round_job 2 e b c) → (i : ℕ) → i < components_size
    → SFits w32 (get_or (negate e) i (pos 0))
negated_numbers e b c h = negated_fits (accepted_means 2 e b c h).0 (lit< tt)

-- the second call is at the same b, with any other buffer of 64
module _ (e : List ℤ) (b : ℕ) (c : List ℤ) (h : Accepts (round_job 2 e b c)) (other : List ℤ) (l : length other ≡ places) where
  -- "an accepted set with all components negated" is accepted
  pub negated_accepted : job_returned (round_job 2 (negate e) b other) ≡ accept
  negated_accepted = let (S, s, w) = accepted_means 2 e b c h in accepts 2 (negate e) b other (set_negated S) l w

  -- and "gives all coefficients negated"
  pub negated_left : job_left (round_job 2 (negate e) b other) ≡ negate (job_left (round_job 2 e b c))
  negated_left =
      accepted_leaves (round_job 2 (negate e) b other) (rw negated_accepted tt) ∙ coefficients_negated 2 b e ∙ ap negate (sym (accepted_leaves (round_job 2 e b c) h))
