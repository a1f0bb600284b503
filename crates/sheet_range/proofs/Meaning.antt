-- What a call of `sheet_range` gives, in 02's words (request 4); and that what `sheet` writes is a sheet that it accepts.
use Rattle.std.specs.Prelude.{◌≡◌, ◌+◌, ◌-◌, ◌*◌, ◌/◌, ◌%◌, ◌≤◌, ◌<◌}
use Rattle.integers.specs.Kit.{refl, sym, ap, ap₂, ◌∙◌, Bool, false, List, ℕ, suc, T, lit<, lit≤, ℤ, pos, nat_abs, length, get_or}
use native.Mathlib.Nat.{div-add-mod, mod-lt}
use native.Mathlib.Omega.{arith}
use lib.Ieee.{Float, le}
use lib.Ieee.Exact.{HasValue}
use Rattle.integers.proofs.Ranges.{not_beyond}
use Rattle.integers.proofs.Foremost.{Order}
use Rattle.limits.specs.Limits.{places, coefficient_limit}
use Rattle.answers.specs.Answer.{accept}
use Rattle.answers.specs.Job.{job_returned, job_left, Accepts}
use Rattle.answers.proofs.Jobs.{accepted_leaves}
use Rattle.floats.specs.Fraction.{coefficient_float, negative}
use Rattle.floats.proofs.Comparison.{in_order_at_most}
use Rattle.floats.proofs.Fractions.{exact}
use Rattle.element_sets.proofs.Limit.{block-set}
use Rattle.coefficients.proofs.Blocks.{coefficient_size}
use Rattle.words.specs.Word.{across, coefficient_head_kind, coefficient_kind, down, kind, payload}
use Rattle.sheet_checks.specs.Check.{sample_format, coefficient_format, outside_format, word_at, value_at, blocks, size_of}
use Rattle.sheet_checks.specs.Sheets.{ValidShape, ValidSheet}
use Rattle.sheet_checks.proofs.Sheets.{some_blocks}
use Rattle.sheet_blocks.specs.Blocks.{Scratch, block, block_coefficients}
use Rattle.sheet_blocks.specs.Preconditions.{Checked}
use Rattle.sheet_blocks.proofs.Samples.{block_range, block_words}
use Rattle.sheet.specs.Sheet.{sheet_job}
use Rattle.sheet.proofs.Causes.{accepted_checked}
use Rattle.sheet.proofs.Meaning as sheets
use Rattle.sheet_range.specs.SheetRange.{range_job}
use Rattle.sheet_range.proofs.Causes.{accepts, accepted_means}
use Rattle.sheet_range.proofs.Extremes.{by_lower, by_higher, extreme, extreme_digits, in_digits, picked_first, picked_has}

-- the float of word i's coefficient
abbrev pub float_at : List ℕ → ℕ → Float
float_at words i = coefficient_float (value_at words i)

-- x is the float of a word between the head and the end word
pub record Attained (words : List ℕ) (x : Float) : Type 0 where
  pub index : ℕ
  pub behind_head : 1 ≤ index
  pub before_end : suc index < length words
  pub has : x ≡ float_at words index

-- an accepted call

module _ (words : List ℕ) (h : Accepts (range_job words)) where
  S : ValidSheet coefficient_format words
  S = accepted_means words h

  some : 3 ≤ length words
  some = omega (arith, S.valid_shape.count, some_blocks S.valid_shape)

  -- it answers 0 and place 0
  pub returns_0 : job_returned (range_job words) ≡ accept
  returns_0 = accepts words S

  given : job_left (range_job words) ≡ (range_job words).result
  given = accepted_leaves (range_job words) h

  attained : {before : ℤ → ℤ → Bool} → Order before → Attained words (coefficient_float (extreme before words 1 (length words - 3)))
  attained O =
      picked_has O (value_at words) (λ z. Attained words (coefficient_float z)) 1 (length words - 3)
      (λ j l m. record { index = j; behind_head = l; before_end = omega (arith, some); has = refl })

  -- both floats are those of words between the head and the end word

  pub lowest_attained : Attained words (job_left (range_job words)).lowest
  lowest_attained = rw given (attained by_lower)

  pub highest_attained : Attained words (job_left (range_job words)).highest
  highest_attained = rw given (attained by_higher)

  -- and the float of each lies between them
  pub between : (i : ℕ) → 1 ≤ i → suc i < length words → T (le (job_left (range_job words)).lowest (float_at words i)) × T (le (float_at words i) (job_left (range_job words)).highest)
  between i l m =
      let n = length words - 3 in
      let f = value_at words in
      let few : suc (1 + n) < length words = omega (arith, some) in
      let here = in_digits S i l m in
      rw given (
        in_order_at_most 3 _ (f i) (lit≤ tt) (extreme_digits S by_lower 1 n (lit≤ tt) few) here (picked_first by_lower f 1 n i l (omega arith)),
        in_order_at_most 3 (f i) _ (lit≤ tt) here (extreme_digits S by_higher 1 n (lit≤ tt) few) (picked_first by_higher f 1 n i l (omega arith)),
      )

  -- exactly
  pub word_exact : (i : ℕ) → 1 ≤ i → suc i < length words → HasValue (float_at words i) (negative (value_at words i)) (nat_abs (value_at words i)) 8
  word_exact i l m = exact 3 (value_at words i) (lit≤ tt) (in_digits S i l m)

-- the words that an accepted call of sheet wrote, in a list of their own: they are a coefficient sheet, and accepted

module _ (K : Scratch) (words : List ℕ) (b : ℕ) (scratch : List ℤ) (output : List ℕ) (a : Accepts (sheet_job K words b scratch output))
    (written : List ℕ) (size : length written ≡ length words)
    (same : (i : ℕ) → i < length words → word_at written i ≡ word_at (sheets.left K words b scratch output).output i) where
  checked : Checked K words b (length scratch) (length output)
  checked = accepted_checked K words b scratch output a

  shape : ValidShape sample_format words
  shape = checked.right.valid_shape

  head : (kind (word_at written 0) ≡ coefficient_head_kind) × (across (word_at written 0) ≡ across (word_at words 0)) × (down (word_at written 0) ≡ down (word_at words 0))
  head = rw (same 0 shape.some_words) (sheets.head_left K words b scratch output a)

  same_blocks : blocks written ≡ blocks words
  same_blocks = ap₂ ◌*◌ head.1 head.2

  -- the coefficient of a word, by its block k and its place p
  pub coefficient_written : (k p : ℕ) → k < blocks words → p < places
      → (kind (word_at written (1 + places * k + p)) ≡ coefficient_kind) × (value_at written (1 + places * k + p) ≡ get_or (block_coefficients b words k) p (pos 0))
  coefficient_written k p h l =
      rw (same (1 + places * k + p) (let r = block_words checked k h in omega arith)) (sheets.block-left K words b scratch output a k p h l)

  within_limit : (k p : ℕ) → k < blocks words → p < places → nat_abs (get_or (block_coefficients b words k) p (pos 0)) ≤ coefficient_limit
  unfolding block_coefficients
  within_limit k p h l = coefficient_size b (block-set 1 (block words k) (block_range checked k h)) checked.at_width p l

  body : (i : ℕ) → 0 < i → suc i < length written → (kind (word_at written i) ≡ coefficient_kind) × (outside_format coefficient_format (value_at written i) ≡ false)
  body i h l =
      let k = (i - 1) / places in
      let p = (i - 1) % places in
      let below : p < places = mod-lt (i - 1) (lit< tt) in
      let here : 1 + places * k + p ≡ i = omega (arith, div-add-mod (i - 1) places) in
      let room : k < blocks words = omega (arith, here, size, shape.count) in
      let (of_kind, holds) = coefficient_written k p room below in
      let z = value_at written i in
      let v : z ≡ get_or (block_coefficients b words k) p (pos 0) = ap (value_at written) (sym here) ∙ holds in (
        ap (λ i. kind (word_at written i)) (sym here) ∙ of_kind,
        not_beyond coefficient_limit z (rw v (within_limit k p room below)),
      )

  end : word_at written (length written - 1) ≡ word_at words (length words - 1)
  end =
      ap (λ n. word_at written (n - 1)) size ∙ same (length words - 1) (let h = shape.some_words in omega arith) ∙ sheets.end-left K words b scratch output a

  pub written_right : ValidSheet coefficient_format written
  written_right = record {
    valid_shape = record {
      some_words = rw size shape.some_words;
      head_kind = head.0;
      some_across = rw head.1 shape.some_across;
      some_down = rw head.2 shape.some_down;
      few_blocks = rw same_blocks shape.few_blocks;
      count = size ∙ shape.count ∙ ap size_of (sym same_blocks);
    };
    body_kind = λ i h l. (body i h l).0;
    body_range = λ i h l. (body i h l).1;
    end_kind = ap kind end ∙ checked.right.end_kind;
    end_count = ap payload end ∙ checked.right.end_count ∙ sym same_blocks;
  }

  pub written_accepted : job_returned (range_job written) ≡ accept
  written_accepted = accepts written written_right
