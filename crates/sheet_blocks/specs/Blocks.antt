-- The blocks of a sheet, and the words of the coefficient sheet (01, "Sheets").
use Rattle.std.specs.Prelude.{◌+◌, ◌-◌, ◌*◌, ◌/◌, ◌%◌}
use Rattle.integers.specs.Kit.{cond, List, ℕ, suc, eqb, ℤ, pos, length, get_or}
use Rattle.integers.specs.Table.{table}
use Rattle.limits.specs.Limits.{places, components_size}
use Rattle.blocks.specs.Blocks.{elements_of}
use Rattle.coefficients.specs.Coefficients.{coefficients_of}
use Rattle.words.specs.Word.{across, coefficient_head_kind, coefficient_kind, payload, payload_of, value, word}
use Rattle.sheet_checks.specs.Check.{word_at}

-- "Blocks go left to right, then down": the number of the block in row i of blocks, from the top, and column j, from the left
abbrev pub block_number : List ℕ → ℕ → ℕ → ℕ
block_number words i j = across (word_at words 0) * i + j

-- the samples of block k: "64 words each, row by row", after the head
unfoldable pub block : List ℕ → ℕ → List ℤ
block words k = table places (λ i. value (payload (word_at words (1 + places * k + i))))

-- a kind of scratch: how many numbers it has, and what it holds after a block with given samples
pub record Scratch : Type 0 where
  pub size : ℕ
  pub holds : List ℤ → List ℤ

-- "a scratch of exactly 512 numbers, which holds the last block's elements"
abbrev pub element_scratch : Scratch
element_scratch = record { size = components_size; holds = elements_of 2 }

-- "the rounding at b of that block's exact elements"
unfoldable pub block_coefficients : ℕ → List ℕ → ℕ → List ℤ
block_coefficients b words k = coefficients_of 2 b (elements_of 2 (block words k))

-- the word of coefficient i
abbrev pub coefficient_word : List ℤ → ℕ → ℕ
coefficient_word coefficients i = word coefficient_kind (payload_of (get_or coefficients i (pos 0)))

-- word i of the output: "a head of kind 4 with the same sizes, then for each block 64 words of kind 3, [..], then the same end word"
unfoldable pub output_word : ℕ → List ℕ → ℕ → ℕ
output_word b words i =
    cond (eqb i 0) (word coefficient_head_kind (payload (word_at words 0)))
    (cond (eqb (suc i) (length words)) (word_at words i)
    (coefficient_word (block_coefficients b words ((i - 1) / places)) ((i - 1) % places)))

-- the coefficient sheet of a sample sheet, which has as many words
unfoldable pub coefficient_sheet : ℕ → List ℕ → List ℕ
coefficient_sheet b words = table (length words) (output_word b words)
