-- What a call of the sheet job leaves, word by word.
use Rattle.std.specs.Prelude.{◌≡◌, ◌+◌, ◌-◌, ◌*◌, ◌≤◌, ◌<◌}
use Rattle.integers.specs.Kit.{refl, sym, ap, ap₂, ◌∙◌, Bool, true, false, cond, List, ℕ, T, lit<, lit≤, ℤ, pos, length, get_or}
use native.Mathlib.Omega.{arith}
use Rattle.integers.specs.Table.{table, over}
use Rattle.integers.proofs.Overwriting.{get_d_over, get_d_beyond}
use Rattle.integers.proofs.Tables.{get_d_table, length-table, table_ext}
use Rattle.limits.specs.Limits.{distance_numerator, halvings, places}
use Rattle.rounding_error.specs.Value.{Near}
use Rattle.rounding_error.specs.Width.{distance}
use Rattle.elements.specs.Buffer.{element_at}
use Rattle.answers.specs.Answer.{accept_with, accepted}
use Rattle.answers.specs.Job.{Job, job_returned, job_left, Accepts}
use Rattle.answers.proofs.Jobs.{accepted_leaves}
use Rattle.blocks.specs.Blocks.{block_sum, elements_of}
use Rattle.element_sets.proofs.Limit.{block-set}
use Rattle.coefficients.specs.Coefficients.{coefficients_of}
use Rattle.coefficients.proofs.Blocks.{first-coefficient}
use Rattle.coefficients.proofs.Distance.{all_near}
use Rattle.words.specs.Word.{across, coefficient_head_kind, coefficient_kind, down, kind, payload, value, word}
use Rattle.words.proofs.Packing.{kind-word, payload-word, payload-below}
use Rattle.sheet_checks.specs.Check.{word_at, value_at, blocks}
use Rattle.sheet_checks.proofs.Sheets.{some_blocks}
use Rattle.sheet_blocks.specs.Preconditions.{Checked}
use Rattle.sheet_blocks.specs.Blocks.{Scratch, block_number, block, block_coefficients, coefficient_sheet, coefficient_word, output_word}
use Rattle.sheet_blocks.specs.Sums.{firsts_total, samples_total, first_sum}
use Rattle.sheet.specs.Sheet.{Left, sheet_job}
use Rattle.sheet.proofs.Causes.{accepts, accepted_checked}
use Rattle.sheet_blocks.proofs.Output.{output_head, output_body, output_end}
use Rattle.sheet_blocks.proofs.Samples.{block-place, block_words, block_range, output_coefficient}
use Rattle.sheet_blocks.proofs.Sums.{same_firsts, sums_equal}

-- a call, with any scratch

module _ (K : Scratch) (words : List ℕ) (b : ℕ) (scratch : List ℤ) (output : List ℕ) where
  abbrev pub left : Left
  left = job_left (sheet_job K words b scratch output)

  -- "The two are equal on every accepted sheet": and so on every one, since beside a refusal both are 0
  pub same-sums : left.totals.samples ≡ left.totals.firsts
  unfolding job_left
  same-sums = go (accepted (job_returned (sheet_job K words b scratch output))) (λ a. sums_equal (accepted_checked K words b scratch output a))
    where
      job : Job Left
      job = sheet_job K words b scratch output

      go : (t : Bool) → (T t → samples_total words ≡ firsts_total b words)
          → (cond t job.result job.was).totals.samples ≡ (cond t job.result job.was).totals.firsts
      go true same = same tt
      go false same = refl

-- an accepted call

module _ (K : Scratch) (words : List ℕ) (b : ℕ) (scratch : List ℤ) (output : List ℕ) (a : Accepts (sheet_job K words b scratch output)) where
  checked : Checked K words b (length scratch) (length output)
  checked = accepted_checked K words b scratch output a

  -- "returns 0 and the words written", as many as the sheet has
  pub returns_words : job_returned (sheet_job K words b scratch output) ≡ accept_with (length words)
  returns_words = accepts K words b scratch output checked.at_width checked.right checked.scratch_size checked.output_size

  is_left : job_left (sheet_job K words b scratch output) ≡ (sheet_job K words b scratch output).result
  is_left = accepted_leaves (sheet_job K words b scratch output) a

  -- the scratch holds what it has of the last block
  pub last_block : (left K words b scratch output).scratch ≡ K.holds (block words (blocks words - 1))
  last_block = ap (λ (l : Left). l.scratch) is_left

  written_over : (left K words b scratch output).output ≡ over (coefficient_sheet b words) output
  written_over = ap (λ (l : Left). l.output) is_left

  abbrev left_at : ℕ → ℕ
  left_at = word_at (left K words b scratch output).output

  pub word-left : (i : ℕ) → i < length words → left_at i ≡ output_word b words i
  unfolding coefficient_sheet
  word-left i h =
      rw written_over
      (get_d_over (table (length words) (output_word b words)) output 0 i (rw (length-table (length words) (output_word b words)) h)
      ∙ get_d_table (length words) (output_word b words) 0 i h)

  -- the head has kind 4 and the same sizes
  pub head_left : (kind (left_at 0) ≡ coefficient_head_kind) × (across (left_at 0) ≡ across (word_at words 0)) × (down (left_at 0) ≡ down (word_at words 0))
  head_left =
      let head = word_at words 0 in
      let e : left_at 0 ≡ word coefficient_head_kind (payload head) = word-left 0 (omega (arith, checked.right.valid_shape.count)) ∙ output_head b words in
      let p = payload-word coefficient_head_kind (payload head) (payload-below head) in
      (rw e (kind-word coefficient_head_kind (payload head) (payload-below head)), rw (e, p), rw (e, p))

  -- coefficient p of block k has kind 3, and its value is the rounding at b of that block's element p
  pub block-left : (k p : ℕ) → k < blocks words → p < places
      → (kind (left_at (1 + places * k + p)) ≡ coefficient_kind) × (value (payload (left_at (1 + places * k + p))) ≡ get_or (block_coefficients b words k) p (pos 0))
  block-left k p h l =
      let room = block_words checked k h in
      rw (word-left (1 + places * k + p) (omega arith)) (output_coefficient checked k h p l)

  -- so that the block in row i of blocks, from the top, and column j, from the left, is the rounding of the block that was read there
  pub coefficient-left : (i j p : ℕ) → i < down (word_at words 0) → j < across (word_at words 0) → p < places
      → (kind (left_at (1 + places * block_number words i j + p)) ≡ coefficient_kind)
      × (value (payload (left_at (1 + places * block_number words i j + p))) ≡ get_or (block_coefficients b words (block_number words i j)) p (pos 0))
  coefficient-left i j p h l m = block-left (block_number words i j) p (block-place words i j h l) m

  -- and that value lies as near to half of the element as demand 3 asks
  pub near_left : (k p : ℕ) → k < blocks words → p < places
      → Near halvings (value (payload (left_at (1 + places * k + p)))) (element_at (elements_of 2 (block words k)) p) (distance distance_numerator b)
  unfolding block_coefficients
  near_left k p h l =
      rw (block-left k p h l).1
      ((all_near 2 (elements_of 2 (block words k)) b (lit≤ tt) (block-set 1 (block words k) (block_range checked k h)) checked.at_width).near p l)

  -- the sums are those of the words that were read and of the words that are left
  pub sums-left : ((left K words b scratch output).totals.samples ≡ samples_total words)
      × ((left K words b scratch output).totals.firsts ≡ first_sum (left K words b scratch output).output (blocks words))
  unfolding coefficient_sheet
  sums-left = (
    ap (λ (l : Left). l.totals.samples) is_left,
    ap (λ (l : Left). l.totals.firsts) is_left
        ∙ same_firsts (coefficient_sheet b words) (left K words b scratch output).output (blocks words) (λ j h.
        let room = block_words checked j h in
        get_d_table (length words) (output_word b words) 0 (1 + places * j) (omega arith) ∙ sym (word-left (1 + places * j) (omega arith))),
  )

  -- the first coefficient of block k is the sum of its samples
  pub first-left : (k : ℕ) → k < blocks words → value_at (left K words b scratch output).output (1 + places * k) ≡ block_sum (block words k)
  unfolding block_coefficients
  first-left k h =
      let index : 1 + places * k + 0 ≡ 1 + places * k = omega arith in
      rw index at (block-left k 0 h (lit< tt)).1 ∙ first-coefficient b (block words k)

  -- the same end word
  pub end-left : left_at (length words - 1) ≡ word_at words (length words - 1)
  end-left =
      let size = checked.right.valid_shape.count in
      let last = length words - 1 in
      word-left last (omega arith) ∙ output_end b words last (omega (arith, some_blocks checked.right.valid_shape)) (omega arith)

  -- output beyond is untouched
  pub beyond-left : (i : ℕ) → length words ≤ i → left_at i ≡ get_or output i 0
  unfolding coefficient_sheet
  beyond-left i h = rw written_over (get_d_beyond (table (length words) (output_word b words)) output 0 i (rw (length-table (length words) (output_word b words)) h))

same_block : (v w : List ℕ) (k : ℕ) → ((i : ℕ) → i < places → word_at v (1 + places * k + i) ≡ word_at w (1 + places * k + i)) → block v k ≡ block w k
unfolding block
same_block v w k same =
    table_ext places (λ i. value (payload (word_at v (1 + places * k + i)))) (λ i. value (payload (word_at w (1 + places * k + i))))
    (λ i l. ap (λ x. value (payload x)) (same i l))

-- "Two accepted sheets of the same sizes that agree in one block, at equal b, agree in that block's 64 output words"
pub block_independence : (K : Scratch) (b : ℕ) (v w : List ℕ) (s t : List ℤ) (o q : List ℕ) → Accepts (sheet_job K v b s o) → Accepts (sheet_job K w b t q)
    → across (word_at v 0) ≡ across (word_at w 0) → down (word_at v 0) ≡ down (word_at w 0)
    → (k : ℕ) → k < blocks v → ((i : ℕ) → i < places → word_at v (1 + places * k + i) ≡ word_at w (1 + places * k + i))
    → (i : ℕ) → i < places → word_at (left K v b s o).output (1 + places * k + i) ≡ word_at (left K w b t q).output (1 + places * k + i)
unfolding block_coefficients
block_independence K b v w s t o q a c e f k h same i l =
    let checked_v = accepted_checked K v b s o a in
    let checked_w = accepted_checked K w b t q c in
    let sizes : blocks v ≡ blocks w = ap₂ ◌*◌ e f in
    let room_v = block_words checked_v k h in
    let room_w = block_words checked_w k (rw sizes at h) in
    word-left K v b s o a (1 + places * k + i) (omega arith) ∙ output_body b v k i l room_v
    ∙ ap (λ x. coefficient_word (coefficients_of 2 b (elements_of 2 x)) i) (same_block v w k same)
    ∙ sym (word-left K w b t q c (1 + places * k + i) (omega arith) ∙ output_body b w k i l room_w)
