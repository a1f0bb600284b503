-- The bytes of a coefficient sheet that was written.
use Rattle.std.specs.Prelude.{◌≡◌, ◌++◌, ◌+◌, ◌*◌, ◌/◌, ◌%◌, ◌≤◌, ◌<◌}
use Rattle.integers.specs.Kit.{refl, sym, ap, ◌∙◌, List, ℕ, lit<, length, take, drop}
use Prim.Native.Nat.{zero-le}
use native.Mathlib.Omega.{arith}
use Rattle.std.specs.Int.{to_be_bytes, w32}
use Rattle.integers.specs.Table.{over, over_at, table}
use Rattle.integers.proofs.Overwriting.{Begun, length_over, over-start, over_on, table_append, take-over}
use Rattle.integers.proofs.Tables.{length-table}
use Rattle.answers.specs.Answer.{accept_with}
use Rattle.answers.proofs.Jobs.{accepted_leaves, is_accepted}
use Rattle.sheet_checks.specs.Check.{word_at}
use Rattle.sheet_blocks.specs.Blocks.{output_word, coefficient_sheet}
use Rattle.sheet_bytes.specs.Program.{by_input, input_job, input_returned, program_width, words_limit, words_of}
use Rattle.sheet_bytes.proofs.Programs.{accepted_bytes, accepted_words}
use Rattle.transform_bytes.specs.Output.{byte_of, bytes_of, output_bytes}

-- the bytes of some words are four for each
pub length_bytes : (words : List ℕ) → length (bytes_of words) ≡ 4 * length words
unfolding bytes_of
length_bytes words = length-table (4 * length words) (λ i. byte_of (word_at words (i / 4)) (i % 4))

-- what is made of an accepted sheet's words
abbrev pub sheet_bytes : List ℕ → List ℕ
sheet_bytes words = bytes_of (coefficient_sheet program_width words)

-- p words were written, and stand at the start of `left`
pub record Written (bytes left : List ℕ) (p : ℕ) : Type 0 where
  pub room : p ≤ words_limit
  pub size : length left ≡ words_limit
  pub count : length (take p left) ≡ p
  pub is : bytes_of (take p left) ≡ output_bytes bytes

-- p is the place of the answer for the bytes, and l was in the buffer before
pub written : (bytes : List ℕ) (p : ℕ) → accept_with p ≡ input_returned bytes
    → (l left : List ℕ) → length l ≡ words_limit → left ≡ by_input (λ words. over (coefficient_sheet program_width words) l) l bytes → Written bytes left p
unfolding output_bytes coefficient_sheet
written bytes p e l left size k =
    let words = words_of bytes in
    let sheet = coefficient_sheet program_width words in
    let t = is_accepted (input_job (λ words. over (coefficient_sheet program_width words) l) l bytes) p e in
    let (answer, room) = accepted_words bytes t in
    let long : length sheet ≡ length words = length-table (length words) (output_word program_width words) in
    let place = ap (λ r. r.place) (e ∙ answer) in
    let whole : left ≡ over sheet l = k ∙ accepted_leaves (input_job (λ words. over (coefficient_sheet program_width words) l) l bytes) t in
    let start : take p left ≡ sheet = rw (place, whole) (take-over sheet l (length words) long) in
    record {
      room = omega arith;
      size = rw whole (length_over sheet l (omega arith) ∙ size);
      count = rw start (long ∙ sym place);
      is = rw start (accepted_bytes bytes sheet_bytes p e);
    }

-- the bytes of the words before word k were written over the start of l, and then those of word k

abbrev pub byte_at : List ℕ → ℕ → ℕ
byte_at words i = byte_of (word_at words (i / 4)) (i % 4)

-- the four bytes of a word, as they stand among those of all
four : (words : List ℕ) (k : ℕ) → table 4 (λ i. byte_at words (4 * k + i)) ≡ to_be_bytes w32 (word_at words k)
four words k = rw (place 0 (lit< tt), place 1 (lit< tt), place 2 (lit< tt), place 3 (lit< tt), whole) refl
  where
    place : (i : ℕ) → i < 4 → byte_at words (4 * k + i) ≡ byte_of (word_at words k) i
    place i h =
        let word : (4 * k + i) / 4 ≡ k = omega arith in
        let byte : (4 * k + i) % 4 ≡ i = omega arith in
        rw (word, byte) refl

    whole : word_at words k / 1 ≡ word_at words k
    whole = omega arith

-- j places are lent, and come back as q
pub stored : (words : List ℕ) {l m : List ℕ} (k : ℕ) → k < length words → Begun (byte_at words) (4 * length words) l (4 * k) m → (q : List ℕ) (j : ℕ)
    → q ≡ to_be_bytes w32 (word_at words k) → j ≡ 4 → Begun (byte_at words) (4 * length words) l (4 * (k + 1)) (take (4 * k) m ++ (q ++ drop j (drop (4 * k) m)))
unfolding over over_at
stored words {l} {m} k h B q j e g =
    let f = byte_at words in
    let p = table (4 * k) f in
    let b = to_be_bytes w32 (word_at words k) in
    let here : take (4 * k) m ++ (q ++ drop j (drop (4 * k) m)) ≡ over_at (4 * k) b m = rw (e, g) refl in
    let more : 4 * (k + 1) ≡ 4 * k + 4 = omega arith in
    let joined : table (4 * (k + 1)) f ≡ p ++ b = ap (λ n. table n f) more ∙ table_append (4 * k) 4 f ∙ ap (λ t. p ++ t) (four words k) in
    record {
      size = B.size;
      room = omega arith;
      written = here ∙ ap (over_at (4 * k) b) (B.written ∙ sym (over-start p l)) ∙ over_on 0 (4 * k) p b l zero-le (omega (arith, length-table (4 * k) f))
          ∙ over-start (p ++ b) l ∙ ap (λ t. over t l) (sym joined);
    }
