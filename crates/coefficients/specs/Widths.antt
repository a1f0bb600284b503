-- The widths as values: each stands for its number b, and a b that is none is refused.
use Rattle.std.specs.Prelude.{◌≡◌, Result, MatchResult}
use Rattle.integers.specs.Kit.{ℕ, false}
use Rattle.coefficients.specs.Tables.{width}
use Rattle.coefficients.specs.declared.Width.{Width}
use Rattle.coefficients.specs.declared.Width.TheVariants.{Eleven, Twenty, TwentySix}
use Rattle.coefficients.specs.declared.NoWidth.{NoWidth}

-- the number b that a width stands for
abbrev pub bits : Width → ℕ
bits Eleven = 11
bits Twenty = 20
bits TwentySix = 26

-- b read as a width: the one that stands for it, and none where b is no width
abbrev pub Read : ℕ → Result Width NoWidth → Type 0
Read b r = MatchResult r (λ w. bits w ≡ b) (λ e. width b ≡ false)
