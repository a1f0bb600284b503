-- Fractions (01, "Where a fraction lies against a cosine"): "pairs of whole numbers, the lower one above 0". They are compared by
-- cross-multiplication, and two pairs of one value are not made equal.
use Rattle.std.specs.Prelude.{◌*◌, ◌<◌, ◌+ℤ◌, ◌*ℤ◌}
use Rattle.integers.specs.Kit.{Bool, ℕ, lit<, ℤ, pos, neg_ℤ}
use Rattle.std.proofs.Common.{mul-pos}
use Rattle.std.specs.Int.Signed.{le_z, lt_z}

pub record Fraction : Type 0 where
  pub upper : ℤ
  pub lower : ℕ
  pub positive : 0 < lower

-- a whole number
abbrev pub whole : ℤ → Fraction
whole z = record { upper = z; lower = 1; positive = lit< tt }

-- 1/4
abbrev pub quarter : Fraction
quarter = record { upper = pos 1; lower = 4; positive = lit< tt }

-- p + q
abbrev pub plus : Fraction → Fraction → Fraction
plus p q =
    record { upper = p.upper *ℤ pos q.lower +ℤ q.upper *ℤ pos p.lower; lower = p.lower * q.lower; positive = mul-pos p.positive q.positive }

-- s·p, for a whole number s
abbrev pub times : ℤ → Fraction → Fraction
times s p = record { upper = s *ℤ p.upper; lower = p.lower; positive = p.positive }

-- p - q
abbrev pub minus : Fraction → Fraction → Fraction
minus p q = plus p (times (neg_ℤ (pos 1)) q)

-- p²
abbrev pub square : Fraction → Fraction
square p = record { upper = p.upper *ℤ p.upper; lower = p.lower * p.lower; positive = mul-pos p.positive p.positive }

-- p is at most q
abbrev pub at_most : Fraction → Fraction → Bool
at_most p q = le_z (p.upper *ℤ pos q.lower) (q.upper *ℤ pos p.lower)

-- p is less than q
abbrev pub less : Fraction → Fraction → Bool
less p q = lt_z (p.upper *ℤ pos q.lower) (q.upper *ℤ pos p.lower)
