-- A valid sheet of any format as 01 describes it ("Sheets"), and why a word of another is refused ("Why a set or sheet is turned back"), for the
-- theorems: `shape_passes`, `contents_pass` and `valid_sheet`; `in_words` and `by_words`.
use Rattle.std.specs.Prelude.{◌≡◌, ◌-◌, ◌≤◌, ◌<◌}
use Rattle.integers.specs.Kit.{true, false, List, ℕ, suc, length}
use Rattle.limits.specs.Limits.{blocks_limit}
use Rattle.words.specs.Word as format
use Rattle.words.specs.Word.{across, down, kind, payload, value}
use Rattle.answers.specs.Answer.{Returned}
use Rattle.sheet_checks.specs.declared.Format.{Format}
use Rattle.sheet_checks.specs.Check.{word_at, blocks, size_of, outside_format, out_of_range, faulty}

-- the head, with its kind and its sizes, and the count of the words
pub record ValidShape (f : Format) (words : List ℕ) : Type 0 where
  pub some_words : 0 < length words
  pub head_kind : kind (word_at words 0) ≡ f.head
  pub some_across : 1 ≤ across (word_at words 0)
  pub some_down : 1 ≤ down (word_at words 0)
  pub few_blocks : blocks words ≤ blocks_limit
  pub count : length words ≡ size_of (blocks words)

-- and the words of the body, with their kind and their range, and the end word
pub record ValidSheet (f : Format) (words : List ℕ) : Type 0 where
  pub valid_shape : ValidShape f words
  pub body_kind : (i : ℕ) → 0 < i → suc i < length words → kind (word_at words i) ≡ f.body
  pub body_range : (i : ℕ) → 0 < i → suc i < length words → outside_format f (value (payload (word_at words i))) ≡ false
  pub end_kind : kind (word_at words (length words - 1)) ≡ format.end_kind
  pub end_count : payload (word_at words (length words - 1)) ≡ blocks words

-- the first faulty word, and what its fault is: word i, which is no head, and none before it has a fault
module _ (f : Format) (words : List ℕ) where
  abbrev pub First : ℕ → Type 0
  First i = (0 < i) × ((j : ℕ) → j < i → faulty f words j ≡ false)

  pub data WordFault : Returned → Type 0 where
    other_kind : (i : ℕ) → First i → suc i < length words → (kind (word_at words i) ≡ f.body → ⊥) → WordFault (record { number = 7; place = i })
    other_value : (i : ℕ) → First i → suc i < length words → kind (word_at words i) ≡ f.body → outside_format f (value (payload (word_at words i))) ≡ true
        → WordFault (record { number = out_of_range f.values; place = i })
    no_end : (i : ℕ) → First i → suc i ≡ length words → (kind (word_at words i) ≡ format.end_kind → ⊥) → WordFault (record { number = 7; place = i })
    wrong_end : (i : ℕ) → First i → suc i ≡ length words → kind (word_at words i) ≡ format.end_kind → (payload (word_at words i) ≡ blocks words → ⊥)
        → WordFault (record { number = 8; place = i })
