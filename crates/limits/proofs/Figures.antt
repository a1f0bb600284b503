-- The figures that the papers name, as the definitions give them.
use Rattle.std.specs.Prelude.{◌≡◌}
use Rattle.integers.specs.Kit.{refl}
use Rattle.limits.specs.Limits.{places, components_size, sample_limit, magnitudes_limit, halvings, distance_numerator, dequantized_limit}
use Rattle.limits.specs.Limits.{magnitudes_limit_in, halvings_in, distance_numerator_in}

-- in force: those of 01, as changed by request 6 of 02
pub figures : (places ≡ 64) × (components_size ≡ 512) × (magnitudes_limit ≡ 4194304) × (halvings ≡ 1) × (distance_numerator ≡ 1048576)
figures = (refl, refl, refl, refl, refl)

-- 01's for its own range, and those of 02 for three dimensions
pub other_figures : (magnitudes_limit_in 2048 2 ≡ 262144) × (distance_numerator_in 2048 2 ≡ 65536)
    × (magnitudes_limit_in sample_limit 3 ≡ 67108864) × (halvings_in 3 ≡ 3) × (distance_numerator_in sample_limit 3 ≡ 4194304)
other_figures = (refl, refl, refl, refl, refl)

-- and that of dequantized coefficients
pub dequantized_figure : dequantized_limit ≡ 4198399
dequantized_figure = refl
