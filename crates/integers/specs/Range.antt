-- Ranges of whole numbers, both ends of which belong to them: 01 and 02 turn back a number that lies outside one.
use Rattle.std.specs.Prelude.{◌||◌}
use Rattle.integers.specs.Kit.{Bool, List, ℕ, ℤ, pos, neg_ℤ, get_or}
use Rattle.std.specs.Int.Signed.{lt_z}

-- z lies outside the range
abbrev pub outside : ℤ → ℤ → ℤ → Bool
outside lowest highest z = lt_z z lowest || lt_z highest z

-- number i of a list does
abbrev pub outside_at : ℤ → ℤ → List ℤ → ℕ → Bool
outside_at lowest highest l i = outside lowest highest (get_or l i (pos 0))

-- z lies beyond the limit L, on either side: its magnitude is above L (`beyond-magnitude`)
abbrev pub beyond : ℕ → ℤ → Bool
beyond L = outside (neg_ℤ (pos L)) (pos L)

-- number i of a list does
abbrev pub beyond_at : ℕ → List ℤ → ℕ → Bool
beyond_at L = outside_at (neg_ℤ (pos L)) (pos L)
