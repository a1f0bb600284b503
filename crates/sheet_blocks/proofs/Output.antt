-- The output of a sheet, word by word: the head, one block more, and the end word.
use Rattle.std.specs.Prelude.{◌≡◌, ◌++◌, ◌+◌, ◌-◌, ◌*◌, ◌/◌, ◌%◌, ◌≤◌, ◌<◌}
use Rattle.integers.specs.Kit.{refl, sym, ap, ◌∙◌, List, ℕ, suc, length, set, take, drop}
use Prim.Native.Nat.{zero-le}
use native.Mathlib.Omega.{arith}
use borrow.Author.Tests.{eq-eqb, ne_eqb}
use Rattle.integers.specs.Table.{table, over, over_at}
use Rattle.integers.proofs.Tables.{length-table, table_ext}
use Rattle.integers.proofs.Overwriting.{table_append, over_none, over_more, over-start, over_on, over_lent}
use Rattle.limits.specs.Limits.{places}
use Rattle.words.specs.Word.{coefficient_head_kind, payload, word}
use Rattle.sheet_checks.specs.Check.{word_at, size_of}
use Rattle.sheet_blocks.specs.Preconditions.{with_blocks}
use Rattle.sheet_blocks.specs.Blocks.{block_coefficients, coefficient_sheet, coefficient_word, output_word}

-- the words of the output

pub output_head : (b : ℕ) (words : List ℕ) → output_word b words 0 ≡ word coefficient_head_kind (payload (word_at words 0))
unfolding output_word
output_head b words = refl

pub output_body : (b : ℕ) (words : List ℕ) (k i : ℕ) → i < places → 1 + places * k + places < length words
    → output_word b words (1 + places * k + i) ≡ coefficient_word (block_coefficients b words k) i
unfolding output_word
output_body b words k i h l =
    let at = 1 + places * k + i in
    let q : (at - 1) / places ≡ k = omega arith in
    let r : (at - 1) % places ≡ i = omega arith in
    rw (ne_eqb at 0 (λ e. omega arith), ne_eqb (suc at) (length words) (λ e. omega arith), q, r)

pub output_end : (b : ℕ) (words : List ℕ) (i : ℕ) → 0 < i → suc i ≡ length words → output_word b words i ≡ word_at words i
unfolding output_word
output_end b words i h l = rw (ne_eqb i 0 (λ e. omega arith), eq-eqb (suc i) (length words) l)

-- what the code writes

-- what the output, which was l, holds once the head and n blocks are written
abbrev pub after_blocks : ℕ → List ℕ → ℕ → List ℕ → List ℕ
after_blocks b words n l = over (table (1 + places * n) (output_word b words)) l

module _ (b : ℕ) (words l : List ℕ) where
  -- the head
  pub head_written : {w : ℕ} → 0 < length l → w ≡ word coefficient_head_kind (payload (word_at words 0)) → set l 0 w ≡ after_blocks b words 0 l
  head_written {w} h e =
      let f = output_word b words in
      ap (set l 0) (e ∙ sym (output_head b words)) ∙ ap (λ m. set m 0 (f 0)) (sym (over_none l)) ∙ over_more f 0 l h

  -- block k: `part` is the part of the output from its first word on, of n words, once its words are written over the start
  pub block_written : (k n : ℕ) {part : List ℕ} → 1 + places * k + places < length words → 1 + places * k + n ≡ length l → places ≤ n
      → part ≡ over (table places (coefficient_word (block_coefficients b words k))) (take n (drop (1 + places * k) l))
      → take (1 + places * k) l ++ (part ++ drop n (drop (1 + places * k) l)) ≡ with_blocks b words k 1 l
  block_written k n room size h new =
      let f = output_word b words in
      let g : ℕ → ℕ = λ i. f (1 + places * k + i) in
      let same = table_ext places (coefficient_word (block_coefficients b words k)) g (λ i h. sym (output_body b words k i h room)) in
      let long = length-table places g in
      over_lent (1 + places * k) n (table places g) l (omega arith) (omega arith) (new ∙ ap (λ t. over t (take n (drop (1 + places * k) l))) same)

  -- block after block
  pub one_more : (k : ℕ) → 1 ≤ length l → with_blocks b words k 1 (with_blocks b words 0 k l) ≡ with_blocks b words 0 (k + 1) l
  one_more k h =
      let f = output_word b words in
      let g : ℕ → ℕ = λ i. f (1 + i) in
      let same : (i : ℕ) → 1 + places * k + i ≡ 1 + (places * k + i) = λ i. omega arith in
      let next : places * k + places ≡ places * (k + 1) = omega arith in
      let long = length-table (places * k) g in
      over_on 1 (1 + places * k) (table (places * k) g) (table places (λ i. f (1 + places * k + i))) l h (omega arith)
      ∙ ap (λ t. over_at 1 t l) (ap (λ t. table (places * k) g ++ t) (table_ext places _ _ (λ i m. ap f (same i)))
      ∙ sym (table_append (places * k) places g) ∙ ap (λ m. table m g) next)

  -- the head and n blocks
  pub all_written : (n : ℕ) → with_blocks b words 0 n (after_blocks b words 0 l) ≡ after_blocks b words n l
  all_written n =
      let f = output_word b words in
      ap (with_blocks b words 0 n) (sym (over-start (table 1 f) l)) ∙ over_on 0 1 (table 1 f) (table (places * n) (λ i. f (1 + i))) l zero-le refl
      ∙ over-start (table 1 f ++ table (places * n) (λ i. f (1 + i))) l ∙ ap (λ t. over t l) (sym (table_append 1 (places * n) f))

  -- the end word
  pub end_written : (n i : ℕ) → length words ≡ size_of n → length words ≤ length l → suc i ≡ length words
      → set (after_blocks b words n l) i (word_at words i) ≡ over (coefficient_sheet b words) l
  unfolding coefficient_sheet
  end_written n i size fits last =
      let f = output_word b words in
      let at : i ≡ 1 + places * n = omega arith in
      let all : 1 + places * n + 1 ≡ length words = omega arith in
      rw (← output_end b words i (omega arith) last, at) (over_more f (1 + places * n) l (omega arith) ∙ ap (λ m. over (table m f) l) all)
