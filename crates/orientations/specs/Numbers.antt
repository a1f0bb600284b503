-- Numbers read as orientations: each below the count of orientations is one, and no other.
use Rattle.std.specs.Prelude.{◌≡◌, Result, MatchResult}
use Rattle.integers.specs.Kit.{ℕ, ltb, false}
use Rattle.orientations.specs.Orientation.{orientations}
use Rattle.orientations.specs.declared.Orientation.{Orientation}
use Rattle.orientations.specs.declared.NoOrientation.{NoOrientation}

-- a number n read as an orientation: the one that has it, and none where no orientation has it
abbrev pub Read : ℕ → Result Orientation NoOrientation → Type 0
Read n r = MatchResult r (λ o. o.number ≡ n) (λ e. ltb n orientations ≡ false)
