-- The bytes that are read of an input, r of them, and what the sheet job answers for their words.
use Rattle.std.specs.Prelude.{◌≡◌, ◌*◌, ◌/◌, ◌%◌, ◌≤◌}
use Rattle.integers.specs.Kit.{refl, sym, ap, ap₂, ◌∙◌, List, ℕ, ℤ, pos, length, take, replicate}
use Prim.Native.Nat.{min}
use native.Mathlib.Decide.{dec_le}
use native.Mathlib.Omega.{arith}
use lib.ListN.{length-replicate, length-take}
use lib.Seq.{take_all}
use borrow.Author.Tests.{eq-eqb, ne_eqb}
use Rattle.integers.specs.Table.{over}
use Rattle.integers.proofs.Overwriting.{take-over}
use Rattle.integers.proofs.Tables.{length-table}
use Rattle.limits.specs.Limits.{components_size}
use Rattle.answers.specs.Answer.{Returned, accept_with, answered, holds, fails}
use Rattle.answers.specs.Job.{Job, job_returned, job_left}
use Rattle.answers.proofs.Causes.{only_reason, passes_on}
use Rattle.answers.proofs.Jobs.{refused_leaves, same_left}
use Rattle.sheet_blocks.specs.declared.Totals.{Totals}
use Rattle.sheet_blocks.specs.Blocks.{element_scratch, coefficient_sheet}
use Rattle.sheet_blocks.specs.Sums.{no_totals, sheet_totals}
use Rattle.sheet.specs.Sheet.{Left, sheet_causes, sheet_job}
use Rattle.sheet_bytes.specs.Program.{by_input, input_job, input_limit, input_returned, program_width, word_from, words_limit, words_of}

-- "at most 32,780 bytes"
pub input_figure : input_limit ≡ 32780
input_figure = refl

-- the whole words of some bytes are one for each four
length_words : (bytes : List ℕ) → length (words_of bytes) ≡ length bytes / 4
unfolding words_of
length_words bytes = length-table (length bytes / 4) (λ i. word_from bytes (4 * i))

-- the scratch that the call lends
abbrev pub scratch : List ℤ
scratch = replicate components_size (pos 0)

module _ (input : List ℕ) {r : ℕ} (e : r ≡ min (length input) input_limit) where
  abbrev read : List ℕ
  read = take input_limit input

  pub count : length (take r input) ≡ r
  count = length-take r input ∙ omega arith

  same : take r input ≡ read
  same = go (dec_le (length input) input_limit)
    where
      go : Dec (length input ≤ input_limit) → take r input ≡ take input_limit input
      go (yes h) = take_all r input (omega arith) ∙ sym (take_all input_limit input h)
      go (no h) = let all : r ≡ input_limit = omega arith in rw all

  -- what `transform_input` promises of its answer, of both sums and of the output that it leaves, where that was o
  abbrev Promised : List ℕ → Returned → Totals → List ℕ → Type 0
  Promised o a t left =
      (a ≡ input_returned read) × ((t ≡ by_input (sheet_totals program_width) no_totals read)
      × (left ≡ by_input (λ words. over (coefficient_sheet program_width words) o) o read))

  -- bytes over
  pub bytes_over : (o : List ℕ) → (r % 4 ≡ 0 → ⊥) → {a : Returned} {t : Totals} → a ≡ record { number = 7; place = r / 4 } → t ≡ no_totals → Promised o a t o
  bytes_over o h f p =
      let answer : record { number = 7; place = r / 4 } ≡ input_returned read = rw (← same) (ap (λ n. record { number = 7; place = n / 4 }) (sym count)
      ∙ only_reason (holds (fails (ne_eqb (length (take r input) % 4) 0 (λ z. h (sym (ap (λ n. n % 4) count) ∙ z)))))) in (
        f ∙ answer,
        (
          p ∙ sym (refused_leaves (input_job (sheet_totals program_width) no_totals read) (rw (← answer))),
          sym (refused_leaves (input_job (λ words. over (coefficient_sheet program_width words) o) o read) (rw (← answer))),
        ),
      )

  -- whole words, which are loaded over the start of l
  module _ (loaded l : List ℕ) (f : loaded ≡ over (words_of (take r input)) l) where
    loaded_words : take (r / 4) loaded ≡ words_of (take r input)
    loaded_words = rw f (take-over (words_of (take r input)) l (r / 4) (length_words (take r input) ∙ ap (λ k. k / 4) count))

    pub loaded_count : r / 4 ≡ length (take (r / 4) loaded)
    loaded_count = sym (ap length loaded_words ∙ length_words (take r input) ∙ ap (λ k. k / 4) count)

    -- what the sheet job answers for some words, with a scratch of s numbers and an output of o words
    abbrev answers : List ℕ → ℕ → ℕ → Returned
    answers words s o = answered (sheet_causes components_size words program_width s o) (accept_with (length words))

    module _ (o : List ℕ) where
      -- the call of the sheet job
      abbrev call : Job Left
      call = sheet_job element_scratch (take (r / 4) loaded) program_width scratch o

      pub whole_words : length o ≡ words_limit → r % 4 ≡ 0 → {a : Returned} {t : Totals} {left : List ℕ} → a ≡ job_returned call → t ≡ (job_left call).totals
          → left ≡ (job_left call).output → Promised o a t left
      whole_words size h ea et el =
          let words : take (r / 4) loaded ≡ words_of read = loaded_words ∙ ap words_of same in
          let whole : length read % 4 ≡ 0 = rw (← same, count) h in
          let answer : input_returned read ≡ job_returned call =
          passes_on _ _ _ (rw (eq-eqb (length read % 4) 0 whole) tt)
          ∙ ap₂ (answers (words_of read)) (sym (length-replicate components_size (pos 0))) (sym size) ∙ ap (λ w. answers w (length scratch) (length o)) (sym words) in
          let sheets = input_job (λ words. over (coefficient_sheet program_width words) o) o read in (
            ea ∙ sym answer,
            (
              et ∙ same_left (λ (l : Left). l.totals) call (input_job (sheet_totals program_width) no_totals read) answer (ap (sheet_totals program_width) words) refl,
              el ∙ same_left (λ (l : Left). l.output) call sheets answer (ap (λ w. over (coefficient_sheet program_width w) o) words) refl,
            ),
          )
