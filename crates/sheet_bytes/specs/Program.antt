-- What the programs over sheets share (01, "Sheets"; 02, request 5): the bytes that they read, as words; what is answered for these; and the line
-- of a refusal.
use Rattle.std.specs.Prelude.{◌∷◌, ◌++◌, ◌+◌, ◌*◌, ◌/◌, ◌%◌, ◌^◌}
use Rattle.integers.specs.Kit.{List, [], ℕ, eqb, length, get_or}
use Rattle.integers.specs.Table.{table}
use Rattle.limits.specs.Limits.{blocks_limit, components_size}
use Rattle.answers.specs.Answer.{Returned, Cause, unless_at, answered, accept_with}
use Rattle.answers.specs.Job.{Job, job_left}
use Rattle.text.specs.Decimal.{decimal}
use Rattle.sheet_checks.specs.Check.{size_of}
use Rattle.sheet.specs.Sheet.{sheet_causes}

-- "The program works at width 26"
abbrev pub program_width : ℕ
program_width = 26

-- the words of the largest sheet
abbrev pub words_limit : ℕ
words_limit = size_of blocks_limit

-- it "reads at most 32,780 bytes of standard input", a word more than the largest sheet has, by which a longer input shows
abbrev pub input_limit : ℕ
input_limit = 4 * words_limit + 4

-- "(most significant byte first)"

abbrev pub byte_at : List ℕ → ℕ → ℕ
byte_at bytes i = get_or bytes i 0

-- the word of four bytes
abbrev pub word_of : ℕ → ℕ → ℕ → ℕ → ℕ
word_of a b c d = 256 ^ 3 * a + 256 ^ 2 * b + 256 * c + d

-- the word of the four bytes from index i on
unfoldable pub word_from : List ℕ → ℕ → ℕ
word_from bytes i = word_of (byte_at bytes i) (byte_at bytes (i + 1)) (byte_at bytes (i + 2)) (byte_at bytes (i + 3))

-- the whole words of some bytes
unfoldable pub words_of : List ℕ → List ℕ
words_of bytes = table (length bytes / 4) (λ i. word_from bytes (4 * i))

-- one line: "refused ", the number, " at ", the place, newline, in decimal; text is in ASCII

-- room for the longest line, with two numbers of 20 digits
abbrev pub line_limit : ℕ
line_limit = 53

abbrev pub refused_text : List ℕ
refused_text = 114 ∷ 101 ∷ 102 ∷ 117 ∷ 115 ∷ 101 ∷ 100 ∷ 32 ∷ []

abbrev pub at_text : List ℕ
at_text = 32 ∷ 97 ∷ 116 ∷ 32 ∷ []

unfoldable pub refusal_line : Returned → List ℕ
refusal_line r = refused_text ++ (decimal r.number ++ (at_text ++ (decimal r.place ++ (10 ∷ []))))

-- "One to three bytes over are 7 at the count of whole words, before all else"; then the causes of the sheet job, with an output as long as the largest sheet, so that cause 1 never holds
abbrev pub input_causes : List ℕ → List Cause
input_causes input =
    unless_at (length input / 4) (eqb (length input % 4) 0) 7 ∷ sheet_causes components_size (words_of input) program_width components_size words_limit

-- what is answered for the bytes that are read
abbrev pub input_returned : List ℕ → Returned
input_returned input = answered (input_causes input) (accept_with (length (words_of input)))

-- what is made of the words where they are accepted, and `other` where they are refused
abbrev pub input_job : {A : Type 0} → (List ℕ → A) → A → List ℕ → Job A
input_job made other input = record { causes = input_causes input; end = accept_with (length (words_of input)); result = made (words_of input); was = other }

abbrev pub by_input : {A : Type 0} → (List ℕ → A) → A → List ℕ → A
by_input made other input = job_left (input_job made other input)

-- what a program writes for the bytes that it reads: what it makes of the words, or the line of the refusal
abbrev pub program_bytes : (List ℕ → List ℕ) → List ℕ → List ℕ
program_bytes made input = by_input made (refusal_line (input_returned input)) input
