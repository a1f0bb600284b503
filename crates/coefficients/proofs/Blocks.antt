-- What the core asks of an accepted set; how large its coefficients get, and that they are negated with it; and that a block's first coefficient is
-- the sum of its samples.
use Rattle.std.specs.Prelude.{◌≡◌, ◌+◌, ◌-◌, ◌^◌, ◌≤◌, ◌<◌, ◌*ℤ◌}
use Rattle.integers.specs.Kit.{refl, ◌∙◌, ap, cond, List, ℕ, suc, T, eqb, lit<, lit≤, ℤ, pos, nat_abs, length, get_or}
use native.Mathlib.Nat.{pow-le-pow_right}
use native.Mathlib.Omega.{arith}
use lib.IntN.{*ℤ_comm, *ℤ-zero}
use borrow.Author.Tests.{ne_eqb}
use Rattle.integers.proofs.Tables.{get_d_table}
use Rattle.limits.specs.Limits.{places, places_in, sample_limit, magnitudes_limit, magnitudes_limit_in, halvings, halvings_in, coefficient_limit}
use Rattle.ring.specs.Element.{component, negate}
use Rattle.rounding_error.specs.Width.{numerator, coefficient}
use Rattle.rounding_error.proofs.Coefficient.{coefficient-whole, numerator-whole, coefficient_negated}
use Rattle.elements.specs.Buffer.{element_at}
use Rattle.blocks.specs.Blocks.{elements_of, block_sum}
use Rattle.element_sets.specs.Sets.{AcceptedSet}
use Rattle.element_sets.proofs.Limit.{wider}
use Rattle.blocks.proofs.Blocks.{first-component}
use Rattle.coefficients.specs.Preconditions.{Ready}
use Rattle.coefficients.specs.Coefficients.{coefficient_at, coefficients_of}
use Rattle.coefficients.specs.Tables.{table_numbers, width}
use Rattle.coefficients.proofs.Sizes.{coefficient_small}
use Rattle.ring.proofs.Components.{negate-table}
use Rattle.element_sets.proofs.Negated.{element_negated}

-- in two and three dimensions an accepted set and room for its coefficients are what the core asks
pub ready : (d : ℕ) (e c : List ℤ) → 2 ≤ d → d ≤ 3 → AcceptedSet (places_in d) (magnitudes_limit_in sample_limit d) e → length c ≡ places_in d
    → Ready (places_in d) (halvings_in d) e c
ready d e c some few S l =
    let less : d - 1 ≤ 2 = omega arith in
    let power : 16 ^ (d - 1) ≤ 16 ^ 2 = pow-le-pow_right (lit< tt) less in
    record { ready_set = wider (omega arith) S; ready_room = l; ready_halvings = record { some = omega arith; few = omega arith } }

-- how large a coefficient gets: none is beyond the limit of those that come in from outside
pub coefficient_size : {e : List ℤ} (b : ℕ) → AcceptedSet places magnitudes_limit e → T (width b) → (p : ℕ) → p < places
    → nat_abs (get_or (coefficients_of 2 b e) p (pos 0)) ≤ coefficient_limit
coefficient_size {e} b S w p h =
    rw (get_d_table places (coefficient_at halvings b e) (pos 0) p h)
    (coefficient_small (record { at_width = w; are_numbers = refl; in_limit = (wider (lit≤ tt) S).in_limit p h }) (S.in_limit p h))

-- "the sum of all first coefficients": a block's first coefficient is the sum of its samples, since N there is 2^(b+1) times that sum

module _ (b : ℕ) (x : List ℤ) where
  whole : component (element_at (elements_of 2 x) 0) 0 ≡ pos 2 *ℤ block_sum x
  whole = first-component x 0 ∙ *ℤ_comm (block_sum x) (pos 2)

  alone : (k : ℕ) → k < 7 → component (element_at (elements_of 2 x) 0) (suc k) ≡ pos 0
  alone k h =
      let other = get_d_table 8 (λ i. cond (eqb i 0) (pos 2) (pos 0)) (pos 0) (suc k) (omega arith) in
      first-component x (suc k) ∙ rw (other, ne_eqb (suc k) 0 (λ e. omega arith)) (*ℤ-zero (block_sum x))

  pub first-numerator : numerator b (table_numbers b) (element_at (elements_of 2 x) 0) ≡ pos (2 ^ (b + 1)) *ℤ block_sum x
  first-numerator = numerator-whole 1 b (table_numbers b) (element_at (elements_of 2 x) 0) (block_sum x) whole alone

  pub first-coefficient : get_or (coefficients_of 2 b (elements_of 2 x)) 0 (pos 0) ≡ block_sum x
  first-coefficient = coefficient-whole 1 b (table_numbers b) (element_at (elements_of 2 x) 0) (block_sum x) whole alone

-- a set and the set with all components negated

pub coefficients_negated : (d b : ℕ) (e : List ℤ) → coefficients_of d b (negate e) ≡ negate (coefficients_of d b e)
coefficients_negated d b e =
    negate-table (places_in d) _ _ (λ p h.
    ap (coefficient (halvings_in d) b (table_numbers b)) (element_negated e p) ∙ coefficient_negated (halvings_in d) b (table_numbers b) (element_at e p))
