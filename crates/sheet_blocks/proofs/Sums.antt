-- The two sums of a sheet: how they grow by a block, that 64 bits hold them, and that they are equal.
use Rattle.std.specs.Prelude.{◌≡◌, ◌+◌, ◌*◌, ◌^◌, ◌≤◌, ◌<◌, ◌+ℤ◌}
use Rattle.integers.specs.Kit.{refl, sym, ap, ◌∙◌, List, ℕ, lit<, ℤ, pos, nat_abs, length}
use Prim.Native.Nat.{zero-le}
use native.Mathlib.Nat.{lt_of_le_of_lt, mul_comm}
use native.Mathlib.Numerals.{add-one}
use native.Mathlib.Omega.{arith}
use mir.Syntax.{w32}
use mir.Val.{SFits}
use Rattle.integers.specs.Sum.{sum}
use Rattle.integers.specs.Table.{over, table}
use Rattle.integers.proofs.Magnitudes.{small_fits}
use Rattle.integers.proofs.Overwriting.{before_part, get_d_over}
use Rattle.integers.proofs.Signed.{in32, kept}
use Rattle.integers.proofs.Sums.{integers, nat_abs-sum, sum_append, sum-blocks, sum_cong}
use Rattle.integers.proofs.Tables.{get_d_table, length-table}
use Rattle.limits.specs.Limits.{blocks_limit, places, sample_limit}
use Rattle.blocks.specs.Blocks.{AllInRange, block_sum, sample}
use Rattle.blocks.proofs.Blocks.{samples_small}
use Rattle.coefficients.proofs.Blocks.{first-coefficient}
use Rattle.words.specs.Word.{payload, value, value_limit}
use Rattle.words.proofs.Packing.{value_small}
use Rattle.sheet_checks.specs.Check.{word_at, value_at, blocks}
use Rattle.sheet_blocks.specs.declared.Totals.{Totals}
use Rattle.sheet_blocks.specs.Blocks.{Scratch, block, block_coefficients, coefficient_sheet, output_word}
use Rattle.sheet_blocks.specs.Preconditions.{Checked, Room, with_blocks}
use Rattle.sheet_blocks.specs.Sums.{Agree, firsts_total, samples_total, first_sum, sample_sum}
use Rattle.sheet_blocks.proofs.Output.{after_blocks}
use Rattle.sheet_blocks.proofs.Samples.{block_words, output_coefficient}

-- the value of word i of the body
abbrev body_value : List ℕ → ℕ → ℤ
body_value words i = value_at words (1 + i)

-- one block more

-- sample i of block k
block-sample : (words : List ℕ) (k i : ℕ) → i < places → value_at words (1 + places * k + i) ≡ sample (block words k) i
unfolding block
block-sample words k i h = sym (get_d_table places (λ i. value_at words (1 + places * k + i)) (pos 0) i h)

samples_more : (words : List ℕ) (k : ℕ) → sample_sum words (k + 1) ≡ sample_sum words k +ℤ block_sum (block words k)
unfolding sample_sum
samples_more words k =
    let next : places * (k + 1) ≡ places * k + places = omega arith in
    let f = body_value words in
    ap (λ n. sum (pos 0) ◌+ℤ◌ n f) next ∙ sum_append (pos 0) ◌+ℤ◌ integers (places * k) places f
    ∙ ap (λ t. sum (pos 0) ◌+ℤ◌ (places * k) f +ℤ t) (sum_cong (pos 0) ◌+ℤ◌ places _ _
    (λ i h. ap (value_at words) (omega arith) ∙ block-sample words k i h))

-- two sheets whose first n blocks begin with the same words
pub same_firsts : (v w : List ℕ) (n : ℕ) → ((j : ℕ) → j < n → word_at v (1 + places * j) ≡ word_at w (1 + places * j)) → first_sum v n ≡ first_sum w n
unfolding first_sum
same_firsts v w n same = sum_cong (pos 0) ◌+ℤ◌ n _ _ (λ j h. ap (λ x. value (payload x)) (same j h))

firsts_more : (words : List ℕ) (k : ℕ) → first_sum words (k + 1) ≡ first_sum words k +ℤ value_at words (1 + places * k)
unfolding first_sum sum
firsts_more words k = rw add-one

-- the sum of a block's samples, one after the other: since each is in range, 32 bits hold it

pub record Adding (x : List ℤ) (i : ℕ) (z : ℤ) : Type 0 where
  pub room : i ≤ places
  pub value : z ≡ sum (pos 0) ◌+ℤ◌ i (sample x)

module _ {x : List ℤ} where
  pub adding_none : Adding x 0 (pos 0)
  unfolding sum
  adding_none = record { room = zero-le; value = refl }

  -- v is the next sample
  module _ (range : AllInRange 2 x) {i : ℕ} {z : ℤ} (A : Adding x i z) (h : i < places) {v : ℤ} (e : v ≡ sample x i) where
    next : z +ℤ in32 v ≡ sum (pos 0) ◌+ℤ◌ (i + 1) (sample x)
    unfolding sum
    next = rw (A.value, e, kept w32 (sample x i) (lt_of_le_of_lt (samples_small range i h) (lit< tt)), add-one)

    small : nat_abs (sum (pos 0) ◌+ℤ◌ (i + 1) (sample x)) < 2 ^ 31
    small = omega (arith, nat_abs-sum (i + 1) sample_limit (sample x) (λ k l. samples_small range k (omega arith)))

    pub plus_fits : SFits w32 (z +ℤ in32 v)
    plus_fits = rw next (small_fits w32 (sum (pos 0) ◌+ℤ◌ (i + 1) (sample x)) small)

    pub adding_more : {r : ℤ} → r ≡ z +ℤ in32 v → Adding x (i + 1) (in32 r)
    adding_more f = record { room = omega arith; value = ap in32 (f ∙ next) ∙ kept w32 (sum (pos 0) ◌+ℤ◌ (i + 1) (sample x)) small }

-- the sums that the loop carries

pub agree_none : (words output : List ℕ) {t : Totals} → t.samples ≡ pos 0 → t.firsts ≡ pos 0 → Agree words output 0 t
unfolding sample_sum first_sum sum
agree_none words output e f = record { of_samples = e; of_firsts = f }

module _ {words was : List ℕ} {k : ℕ} {t : Totals} (A : Agree words was k t) where
  -- the words of block k are written, and those before it are kept
  pub agree_more : (b : ℕ) {left : List ℕ} {r : Totals} → 1 + places * k ≤ length was → left ≡ with_blocks b words k 1 was
      → r.samples ≡ t.samples +ℤ block_sum (block words k) → r.firsts ≡ t.firsts +ℤ value_at left (1 + places * k) → Agree words left (k + 1) r
  agree_more b {left} h e f g =
      let same : (i : ℕ) → i < 1 + places * k → word_at left i ≡ word_at was i = λ i l. ap (λ o. word_at o i) e ∙ before_part (1 + places * k) _ was 0 i h l in
      record {
        of_samples = f ∙ ap (λ z. z +ℤ block_sum (block words k)) A.of_samples ∙ sym (samples_more words k);
        of_firsts = g ∙ ap (λ z. z +ℤ value_at left (1 + places * k)) (A.of_firsts ∙ sym (same_firsts left was k (λ j h. same (1 + places * j) (omega arith))))
            ∙ sym (firsts_more left k);
      }

  -- whatever the words are, there is room for a block more
  pub room : k < blocks_limit → Room t
  unfolding sample_sum first_sum
  room few =
      let samples = nat_abs-sum (places * k) value_limit (body_value words) (λ i h. value_small (word_at words (1 + i))) in
      let firsts = nat_abs-sum k value_limit (λ j. value_at was (1 + places * j)) (λ j h. value_small (word_at was (1 + places * j))) in
      record { of_samples = rw A.of_samples (omega arith); of_firsts = rw A.of_firsts (omega arith) }

-- the first coefficients of a sheet, as the output has them once all blocks are written

table-word : (f : ℕ → ℕ) (l : List ℕ) (m n i : ℕ) → i < m → m ≤ n → word_at (over (table m f) l) i ≡ word_at (table n f) i
table-word f l m n i h g =
    get_d_over (table m f) l 0 i (rw (length-table m f) h) ∙ get_d_table m f 0 i h ∙ sym (get_d_table n f 0 i (omega arith))

pub firsts_written : (b : ℕ) (words l : List ℕ) (n : ℕ) → 1 + places * n ≤ length words → first_sum (after_blocks b words n l) n ≡ first_sum (coefficient_sheet b words) n
unfolding coefficient_sheet
firsts_written b words l n room =
    same_firsts (after_blocks b words n l) (table (length words) (output_word b words)) n (λ j h.
    table-word (output_word b words) l (1 + places * n) (length words) (1 + places * j) (omega arith) room)

-- "The two are equal on every accepted sheet": block by block, since a block's first coefficient is the sum of its samples
pub sums_equal : {K : Scratch} {words : List ℕ} {b s o : ℕ} → Checked K words b s o → samples_total words ≡ firsts_total b words
unfolding sample_sum first_sum coefficient_sheet block_coefficients
sums_equal {words = words} {b = b} C =
    let n = blocks words in
    let f = body_value words in
    ap (λ m. sum (pos 0) ◌+ℤ◌ m f) (mul_comm places n) ∙ sum-blocks (pos 0) ◌+ℤ◌ integers n places f ∙ sum_cong (pos 0) ◌+ℤ◌ n _ _ (λ k h. by_block k h)
  where
    by_block : (k : ℕ) → k < blocks words
        → sum (pos 0) ◌+ℤ◌ places (λ i. body_value words (k * places + i)) ≡ value_at (table (length words) (output_word b words)) (1 + places * k)
    by_block k h =
        let room = block_words C k h in
        let index : 1 + places * k + 0 ≡ 1 + places * k = omega arith in
        let word : word_at (table (length words) (output_word b words)) (1 + places * k) ≡ output_word b words (1 + places * k + 0)
        = get_d_table (length words) (output_word b words) 0 (1 + places * k) (omega arith) ∙ ap (output_word b words) (sym index) in
        sum_cong (pos 0) ◌+ℤ◌ places _ _ (λ i l. ap (value_at words) (omega arith) ∙ block-sample words k i l)
        ∙ sym (first-coefficient b (block words k)) ∙ sym (output_coefficient C k h 0 (omega arith)).1 ∙ ap (λ w. value (payload w)) (sym word)
