-- Rounding by what it is: the whole numbers nearest to z/D, and which of two is taken at a half. The rule of the product is `Away`, with the
-- formula `half_away`; that it gives such a number, and that no other is one: `half_away-rounded`, `only-half_away`.
use Rattle.std.specs.Prelude.{◌≡◌, ◌*◌, ◌/◌, ◌≤◌, ◌<◌, ◌+ℤ◌, ◌-ℤ◌, ◌*ℤ◌, ◌<ℤ◌}
use Rattle.integers.specs.Kit.{ℕ, suc, ℤ, pos, negsuc, neg_ℤ, nat_abs}
use Rattle.std.specs.Int.Signed.{shr_z}

-- q is nearest to z/D: at most 1/2 away from it, said as 2·|D·q - z| ≤ D, which needs no fraction
pub record Nearest (z : ℤ) (D : ℕ) (q : ℤ) : Type 0 where
  pub within_half : 2 * nat_abs (pos D *ℤ q -ℤ z) ≤ D

-- q is nearest; and at a half, where two whole numbers are, D·q stands to z as the rule for halves asks
pub record Rounded (rule : ℤ → ℤ → Type 0) (z : ℤ) (D : ℕ) (q : ℤ) : Type 0 where
  pub nearest : Nearest z D q
  pub at_half : 2 * nat_abs (pos D *ℤ q -ℤ z) ≡ D → rule z (pos D *ℤ q)

-- a half goes up: the multiple w of D that is taken lies above z
abbrev pub Up : ℤ → ℤ → Type 0
Up z w = z <ℤ w

-- a half goes away from zero: w lies further from zero than z
abbrev pub Away : ℤ → ℤ → Type 0
Away z w = nat_abs z < nat_abs w

-- (z + D/2) divided by D, rounded down; D/2 too is rounded down, for an odd D has no halves
unfoldable pub half_up : ℤ → ℕ → ℤ
half_up z D = shr_z (z +ℤ pos (D / 2)) D

-- the same where z is not negative, and its mirror where it is
unfoldable pub half_away : ℤ → ℕ → ℤ
half_away (pos a) D = half_up (pos a) D
half_away (negsuc a) D = neg_ℤ (half_up (pos (suc a)) D)
