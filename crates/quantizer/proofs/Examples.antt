-- Examples, computed from the definitions: halves of both signs, numbers beside them, a dequantized coefficient near its limit, and the first places of
-- the zig-zag order, which are (0,0), (0,1), (1,0), (2,0), (1,1), (0,2), and its last one, (7,7).
use Rattle.std.specs.Prelude.{◌≡◌, ◌∷◌}
use Rattle.integers.specs.Kit.{refl, [], pos, negsuc}
use Rattle.integers.specs.Nearest.{half_up, half_away}
use Rattle.integers.specs.Table.{table}
use Rattle.quantizer.specs.Quantizer.{quantized, dequantized}
use Rattle.quantizer.specs.ZigZag.{place_at}

-- 4/8, -4/8, 3/8, 12/8, -204/24 and 4,194,303/8,184, and what the last is as a coefficient again
pub example_values : (quantized (pos 4) 1 ≡ pos 1) × (quantized (negsuc 3) 1 ≡ negsuc 0) × (quantized (pos 3) 1 ≡ pos 0) × (quantized (pos 12) 1 ≡ pos 2)
    × (quantized (negsuc 203) 3 ≡ negsuc 8) × (quantized (pos 4194303) 1023 ≡ pos 513) × (dequantized (pos 513) 1023 ≡ pos 4198392)
unfolding half_away half_up
example_values = (refl, refl, refl, refl, refl, refl, refl)

pub example_places : (table 6 place_at ≡ 0 ∷ 1 ∷ 8 ∷ 16 ∷ 9 ∷ 2 ∷ []) × (place_at 63 ≡ 63)
unfolding place_at
example_places = (refl, refl)
