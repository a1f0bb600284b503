-- What a `Width` says of the number that it stands for.
use Rattle.std.specs.Prelude.{◌≡◌}
use Rattle.integers.specs.Kit.{ℕ, T}
use Rattle.coefficients.specs.Tables.{width}
use Rattle.coefficients.specs.declared.Width.{Width}
use Rattle.coefficients.specs.declared.Width.TheVariants.{Eleven, Twenty, TwentySix}
use Rattle.coefficients.specs.Widths.{bits}

pub bits_width : (w : Width) → T (width (bits w))
bits_width Eleven = tt
bits_width Twenty = tt
bits_width TwentySix = tt

-- where b was read as a width, b is one
pub read_width : {b : ℕ} (w : Width) → bits w ≡ b → T (width b)
read_width w e = rw e at (bits_width w)
