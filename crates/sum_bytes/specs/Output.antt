-- What `sum_sheet` writes for the bytes that it reads (02, request 5): a line with both sums, or the line of a refusal.
use Rattle.std.specs.Prelude.{◌∷◌, ◌++◌}
use Rattle.integers.specs.Kit.{List, [], ℕ, ℤ}
use Rattle.text.specs.Decimal.{signed_decimal}
use Rattle.sheet_blocks.specs.Sums.{firsts_total, samples_total}
use Rattle.sheet_bytes.specs.Program.{program_bytes, program_width}

-- "the letters SUM, a space, the sum of all samples, a space, the sum of all first coefficients in eighths, newline"

abbrev pub sum_text : List ℕ
sum_text = 83 ∷ 85 ∷ 77 ∷ 32 ∷ []

unfoldable pub sum_line : ℤ → ℤ → List ℕ
sum_line samples firsts = sum_text ++ (signed_decimal samples ++ ((32 ∷ []) ++ (signed_decimal firsts ++ (10 ∷ []))))

-- "A refused sheet prints the refusal line only"
unfoldable pub sum_bytes : List ℕ → List ℕ
sum_bytes = program_bytes (λ words. sum_line (samples_total words) (firsts_total program_width words))
