-- The table numbers of the three widths obey 01's rule, which is one computed test; and m_1 is the largest of them.
use Rattle.std.specs.Prelude.{◌≡◌, ◌||◌, ◌+◌, ◌*◌, ◌^◌, ◌≤◌, ◌<◌}
use Rattle.integers.specs.Kit.{refl, Bool, ℕ, suc, T, eqb, leb, lit≤, nat_abs}
use mathlib.Core.Logic.{⊎_elim}
use native.Mathlib.Nat.{zero-lt-suc}
use lib.Dec.{leb→le}
use mir.Facts.{or_yes, eqb_yes}
use Rattle.integers.specs.Test.{every}
use Rattle.integers.proofs.Tests.{every-at}
use Rattle.ring.specs.Element.{component}
use Rattle.limits.specs.Limits.{magnitudes_limit, coefficient_limit}
use Rattle.rounding_error.specs.Root.{root}
use Rattle.rounding_error.specs.Width.{is_table_number, TableAt}
use Rattle.rounding_error.proofs.Tables.{number_small as small}
use Rattle.coefficients.specs.Tables.{width, table_numbers, first_number}

-- what holds at the three widths holds at each width
pub by_width : (P : ℕ → Type 0) → P 11 → P 20 → P 26 → (b : ℕ) → T (width b) → P b
by_width P x y z b w =
    ⊎_elim (λ t. rw (eqb_yes {a = b} {b = 11} t) x)
    (λ s. ⊎_elim (λ t. rw (eqb_yes {a = b} {b = 20} t) y) (λ t. rw (eqb_yes {a = b} {b = 26} t) z) (or_yes (eqb b 20) (eqb b 26) s))
    (or_yes (eqb b 11) (eqb b 20 || eqb b 26) w)

-- the width that is left
pub third : (b : ℕ) → T (width b) → (b ≡ 11 → ⊥) → (b ≡ 20 → ⊥) → b ≡ 26
third = by_width (λ b. (b ≡ 11 → ⊥) → (b ≡ 20 → ⊥) → b ≡ 26) (λ p q. absurd (p refl)) (λ p q. absurd (q refl)) (λ p q. refl)

-- m_(k+1) at b obeys the rule
right : ℕ → ℕ → Bool
right b k = is_table_number b (suc k) (component (table_numbers b) k)

all_right : (b : ℕ) → T (width b) → T (every 7 (right b))
unfolding right is_table_number table_numbers root
all_right = by_width (λ b. T (every 7 (right b))) tt tt tt

pub tables : (b : ℕ) → T (width b) → TableAt b (table_numbers b)
unfolding right
tables b w = record { numbers = λ k h. every-at 7 (right b) (all_right b w) k h }

-- so it is at most 2^(b+1)
pub number_small : (b : ℕ) → T (width b) → (k : ℕ) → k < 7 → nat_abs (component (table_numbers b) k) ≤ 2 ^ (b + 1)
number_small b w k h = small b (suc k) (zero-lt-suc k) h (component (table_numbers b) k) ((tables b w).numbers k h)

-- m_1 is the largest of the seven

no_larger : ℕ → ℕ → Bool
no_larger b k = leb (nat_abs (component (table_numbers b) k)) (first_number b)

pub at_most-first : (b : ℕ) → T (width b) → (k : ℕ) → k < 7 → nat_abs (component (table_numbers b) k) ≤ first_number b
unfolding no_larger table_numbers
at_most-first b w k h =
    leb→le (nat_abs (component (table_numbers b) k)) (first_number b) (every-at 7 (no_larger b) (by_width (λ b. T (every 7 (no_larger b))) tt tt tt b w) k h)

-- it is at least 2^b, and so far below 2^(b+1) that no coefficient of an accepted set is beyond the limit of coefficients
pub first_bounds : (b : ℕ) → T (width b) → (2 ^ b ≤ first_number b) × (first_number b * magnitudes_limit ≤ 2 ^ (b + 1) * coefficient_limit)
unfolding table_numbers
first_bounds =
    by_width (λ b. (2 ^ b ≤ first_number b) × (first_number b * magnitudes_limit ≤ 2 ^ (b + 1) * coefficient_limit))
    (lit≤ tt, lit≤ tt) (lit≤ tt, lit≤ tt) (lit≤ tt, lit≤ tt)

pub width_small : (b : ℕ) → T (width b) → b ≤ 26
width_small = by_width (λ b. b ≤ 26) (lit≤ tt) (lit≤ tt) (lit≤ tt)
