-- What `transform_sheet` writes for the bytes that it reads (01, "Sheets"): the bytes of the coefficient sheet, or the line of a refusal.
use Rattle.std.specs.Prelude.{◌-◌, ◌*◌, ◌/◌, ◌%◌, ◌^◌}
use Rattle.integers.specs.Kit.{List, ℕ, length}
use Rattle.integers.specs.Table.{table}
use Rattle.sheet_checks.specs.Check.{word_at}
use Rattle.sheet_blocks.specs.Blocks.{coefficient_sheet}
use Rattle.sheet_bytes.specs.Program.{program_bytes, program_width}

-- "writes the coefficient sheet as bytes in the same order", which is the most significant byte first

-- byte i of a word, of which byte 0 is the most significant
abbrev pub byte_of : ℕ → ℕ → ℕ
byte_of w i = w / 256 ^ (3 - i) % 256

unfoldable pub bytes_of : List ℕ → List ℕ
bytes_of words = table (4 * length words) (λ i. byte_of (word_at words (i / 4)) (i % 4))

unfoldable pub output_bytes : List ℕ → List ℕ
output_bytes = program_bytes (λ words. bytes_of (coefficient_sheet program_width words))
