-- Where the blocks of a sheet stand; that the samples of a sheet that was checked are in range, and that the coefficients of its blocks are such as
-- words can hold.
use Rattle.std.specs.Prelude.{◌≡◌, ◌+◌, ◌*◌, ◌/◌, ◌%◌, ◌<◌}
use Rattle.integers.specs.Kit.{sym, ap, ◌∙◌, List, ℕ, zero, suc, T, lit<, lit≤, ℤ, pos, length, get_or}
use native.Mathlib.Nat.{lt_of_le_of_lt, not-suc-le-zero, zero-lt-suc, zero-mul, mul-add, mul-one, mul_comm, mul-le-mul_left, div-lt_iff_lt-mul, div-add-mod, mod-lt}
use native.Mathlib.Omega.{arith}
use lib.Arith.{digits_div, digits_mod}
use Rattle.integers.proofs.Tables.{get_d_table}
use Rattle.limits.specs.Limits.{places, halvings}
use Rattle.blocks.specs.Blocks.{AllInRange, elements_of}
use Rattle.element_sets.proofs.Limit.{block-set}
use Rattle.coefficients.specs.Preconditions.{Ready}
use Rattle.coefficients.specs.Coefficients.{coefficients_of}
use Rattle.coefficients.specs.Tables.{width}
use Rattle.coefficients.proofs.Blocks.{coefficient_size, ready}
use Rattle.words.specs.Word.{across, coefficient_kind, down, kind, payload, payload_of, value}
use Rattle.words.proofs.Packing.{kind-word, payload_of-below, payload-word, small_in_range, value_of_payload}
use Rattle.sheet_checks.specs.Check.{word_at, blocks}
use Rattle.sheet_blocks.specs.Preconditions.{Checked, Fit}
use Rattle.sheet_blocks.specs.Blocks.{Scratch, block_number, block, block_coefficients, coefficient_word, output_word}
use Rattle.sheet_blocks.proofs.Output.{output_body}

factor_positive : (a d : ℕ) {k : ℕ} → k < a * d → 0 < a
factor_positive zero d h = absurd (not-suc-le-zero (rw (zero-mul d) at h))
factor_positive (suc a) d h = zero-lt-suc a

-- "Blocks go left to right, then down": in row i of blocks, from the top, and column j, from the left, stands one of the blocks; each block stands in
-- one row and one column
module _ (words : List ℕ) where
  -- the block on the right is the next one, and the one below comes as many later as there are blocks across
  pub reading_order : (i j : ℕ) → (block_number words i (j + 1) ≡ block_number words i j + 1) × (block_number words (i + 1) j ≡ block_number words i j + across (word_at words 0))
  reading_order i j = (omega arith, rw (mul-add (across (word_at words 0)) i 1) (omega (arith, mul-one (across (word_at words 0)))))

  pub block-place : (i j : ℕ) → i < down (word_at words 0) → j < across (word_at words 0) → block_number words i j < blocks words
  block-place i j h l = omega (arith, mul-le-mul_left (across (word_at words 0)) h)

  pub block_row : (k : ℕ) → k < blocks words
      → (k / across (word_at words 0) < down (word_at words 0)) × (k % across (word_at words 0) < across (word_at words 0))
      × (block_number words (k / across (word_at words 0)) (k % across (word_at words 0)) ≡ k)
  block_row k h =
      let a = across (word_at words 0) in
      let d = down (word_at words 0) in
      let some = factor_positive a d h in
      ((div-lt_iff_lt-mul some).1 (rw (mul_comm d a) h), mod-lt k some, div-add-mod k a)

  pub only-place : (i j m n : ℕ) → j < across (word_at words 0) → n < across (word_at words 0) → block_number words i j ≡ block_number words m n → (i ≡ m) × (j ≡ n)
  only-place i j m n h l e =
      let a = across (word_at words 0) in
      let same : i * a + j ≡ m * a + n = rw (mul_comm i a, mul_comm m a) e in
      (sym (digits_div i h) ∙ ap (λ (k : ℕ). k / a) same ∙ digits_div m l, sym (digits_mod i h) ∙ ap (λ (k : ℕ). k % a) same ∙ digits_mod m l)

-- the word of a coefficient has its kind, and its value
coefficient_kept : {y : List ℤ} → Fit y → (p : ℕ) → p < places
    → (kind (coefficient_word y p) ≡ coefficient_kind) × (value (payload (coefficient_word y p)) ≡ get_or y p (pos 0))
coefficient_kept {y} F p l =
    let z = get_or y p (pos 0) in
    let range = small_in_range z (F.small p l) in
    let below = payload_of-below z range in
    (kind-word coefficient_kind (payload_of z) below, rw (payload-word coefficient_kind (payload_of z) below) (value_of_payload z range))

-- so can the coefficients of a block whose samples are in range
pub coefficients_fit : {x : List ℤ} (b : ℕ) → AllInRange 2 x → T (width b) → Fit (coefficients_of 2 b (elements_of 2 x))
coefficients_fit {x} b range w = record { small = λ i l. lt_of_le_of_lt (coefficient_size b (block-set 1 x range) w i l) (lit< tt) }

module _ {K : Scratch} {words : List ℕ} {b s o : ℕ} (C : Checked K words b s o) (k : ℕ) (h : k < blocks words) where
  -- the words of block k
  pub block_words : 1 + places * k + places < length words
  block_words = rw C.right.valid_shape.count (omega arith)

  pub block_range : AllInRange 2 (block words k)
  unfolding block
  block_range =
      record {
        at = λ i l. rw (get_d_table places (λ i. value (payload (word_at words (1 + places * k + i)))) (pos 0) i l)
            (C.right.body_range (1 + places * k + i) (omega arith) (omega (arith, block_words)));
      }

  pub block_fit : Fit (block_coefficients b words k)
  unfolding block_coefficients
  block_fit = coefficients_fit b block_range C.at_width

  -- coefficient p of block k has kind 3 in the output, and its value is the rounding at b of that block's element p
  pub output_coefficient : (p : ℕ) → p < places
      → (kind (output_word b words (1 + places * k + p)) ≡ coefficient_kind) × (value (payload (output_word b words (1 + places * k + p))) ≡ get_or (block_coefficients b words k) p (pos 0))
  output_coefficient p l = rw (output_body b words k p l block_words) (coefficient_kept block_fit p l)

-- what the core of rounding asks of a block whose samples are in range
pub block_ready : {x e c : List ℤ} → AllInRange 2 x → e ≡ elements_of 2 x → length c ≡ places → Ready places halvings e c
block_ready {x} {e} {c} range same l = ready 2 e c (lit≤ tt) (lit≤ tt) (rw same (block-set 1 x range)) l
