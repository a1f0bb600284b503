-- "A negative must mirror its positive" (02, request 3): what two calls leave, of a sample sheet and of the sheet with all samples negated.
use Rattle.std.specs.Prelude.{◌≡◌, ◌+◌, ◌-◌, ◌*◌, ◌/◌, ◌%◌, ◌≤◌, ◌<◌}
use Rattle.integers.specs.Kit.{sym, ap, ◌∙◌, false, List, ℕ, suc, ℤ, pos, neg_ℤ, length, get_or}
use native.Mathlib.Omega.{arith}
use Rattle.integers.proofs.Tables.{get_d_table}
use Rattle.integers.specs.Range.{outside}
use Rattle.limits.specs.Limits.{places, lowest_sample, highest_sample}
use Rattle.ring.proofs.Components.{component-negate}
use Rattle.answers.specs.Answer.{accept_with}
use Rattle.answers.specs.Job.{job_returned, Accepts}
use Rattle.blocks.specs.Blocks.{elements_of}
use Rattle.blocks.proofs.Blocks.{elements_negated}
use Rattle.coefficients.specs.Coefficients.{coefficients_of}
use Rattle.coefficients.proofs.Blocks.{coefficients_negated}
use Rattle.words.specs.Word.{coefficient_head_kind, kind, payload, value, word}
use Rattle.sheet_checks.specs.Check.{sample_format, word_at, blocks}
use Rattle.sheet_checks.specs.Sheets.{ValidSheet}
use Rattle.sheet_blocks.specs.Preconditions.{Checked}
use Rattle.sheet_blocks.specs.Blocks.{Scratch, block, block_coefficients}
use Rattle.sheet_blocks.proofs.Output.{output_head}
use Rattle.sheet_blocks.proofs.Samples.{block_words}
use Rattle.sheet.specs.Opposite.{Opposite}
use Rattle.sheet.specs.Sheet.{sheet_job}
use Rattle.sheet.proofs.Causes.{accepts, accepted_checked}
use Rattle.sheet.proofs.Meaning.{left, word-left, block-left, end-left}

-- the second sheet is transformed at the same b, with as large a scratch and an output that has room; its samples too are in range, which is asked since -(-32,768) is not
module _ (K : Scratch) (v w : List ℕ) (b : ℕ) (s : List ℤ) (o : List ℕ) (a : Accepts (sheet_job K v b s o)) (O : Opposite (length v) v w)
    (size : length w ≡ length v) (range : (i : ℕ) → 0 < i → suc i < length v → outside lowest_sample highest_sample (value (payload (word_at w i))) ≡ false)
    (t : List ℤ) (q : List ℕ) (scratch : length t ≡ K.size) (room : length w ≤ length q) where
  checked : Checked K v b (length s) (length o)
  checked = accepted_checked K v b s o a

  right : ValidSheet sample_format w
  right =
      let S = checked.right in
      record {
        valid_shape = record {
          some_words = rw size S.valid_shape.some_words;
          head_kind = rw O.same_head S.valid_shape.head_kind;
          some_across = rw O.same_head S.valid_shape.some_across;
          some_down = rw O.same_head S.valid_shape.some_down;
          few_blocks = rw O.same_head S.valid_shape.few_blocks;
          count = rw (O.same_head, size) S.valid_shape.count;
        };
        body_kind = λ i p l. O.same_kinds i p (rw size at l) ∙ S.body_kind i p (rw size at l);
        body_range = λ i p l. range i p (rw size at l);
        end_kind = rw (size, O.same_end) S.end_kind;
        end_count = rw (size, O.same_end, O.same_head) S.end_count;
      }

  -- it is accepted
  pub negative-accepted : job_returned (sheet_job K w b t q) ≡ accept_with (length w)
  negative-accepted = accepts K w b t q checked.at_width right scratch room

  taken : Accepts (sheet_job K w b t q)
  taken = rw negative-accepted tt

  -- the coefficients of block k
  module _ (k : ℕ) (h : k < blocks v) where
    same_blocks : k < blocks w
    same_blocks = rw O.same_head h

    samples : (i : ℕ) → i < places → get_or (block w k) i (pos 0) ≡ neg_ℤ (get_or (block v k) i (pos 0))
    unfolding block
    samples i l =
        let words = block_words checked k h in
        rw (
          get_d_table places (λ i. value (payload (word_at w (1 + places * k + i)))) (pos 0) i l,
          get_d_table places (λ i. value (payload (word_at v (1 + places * k + i)))) (pos 0) i l,
        )
        (O.opposite_values (1 + places * k + i) (omega arith) (omega arith))

    coefficients : (p : ℕ) → get_or (block_coefficients b w k) p (pos 0) ≡ neg_ℤ (get_or (block_coefficients b v k) p (pos 0))
    unfolding block_coefficients
    coefficients p =
        ap (λ e. get_or (coefficients_of 2 b e) p (pos 0)) (elements_negated 2 (block v k) (block w k) samples)
        ∙ ap (λ c. get_or c p (pos 0)) (coefficients_negated 2 b (elements_of 2 (block v k)))
        ∙ component-negate (coefficients_of 2 b (elements_of 2 (block v k))) p

  -- and the two coefficient sheets are opposite
  pub negative-left : Opposite (length v) (left K v b s o).output (left K w b t q).output
  negative-left =
      record {
        same_head = head w t q taken ∙ ap (λ h. word coefficient_head_kind (payload h)) O.same_head ∙ sym (head v s o a);
        same_kinds = λ i p l. (place i p l).0;
        opposite_values = λ i p l. (place i p l).1;
        same_end = ends w t q taken size ∙ O.same_end ∙ sym (end-left K v b s o a);
      }
    where
      head : (x : List ℕ) (s : List ℤ) (o : List ℕ) (a : Accepts (sheet_job K x b s o))
          → word_at (left K x b s o).output 0 ≡ word coefficient_head_kind (payload (word_at x 0))
      head x s o a = word-left K x b s o a 0 (accepted_checked K x b s o a).right.valid_shape.some_words ∙ output_head b x

      ends : (x : List ℕ) (s : List ℤ) (o : List ℕ) → Accepts (sheet_job K x b s o) → {n : ℕ} → length x ≡ n → word_at (left K x b s o).output (n - 1) ≡ word_at x (n - 1)
      ends x s o a e = rw (← e) (end-left K x b s o a)

      place : (i : ℕ) → 0 < i → suc i < length v
          → (kind (word_at (left K w b t q).output i) ≡ kind (word_at (left K v b s o).output i))
          × (value (payload (word_at (left K w b t q).output i)) ≡ neg_ℤ (value (payload (word_at (left K v b s o).output i))))
      place i p l =
          let k = (i - 1) / places in
          let r = (i - 1) % places in
          let index : 1 + places * k + r ≡ i = omega arith in
          let h : k < blocks v = omega (arith, checked.right.valid_shape.count) in
          let m : r < places = omega arith in
          let (kind_w, value_w) = rw index at (block-left K w b t q taken k r (same_blocks k h) m) in
          let (kind_v, value_v) = rw index at (block-left K v b s o a k r h m) in
          (kind_w ∙ sym kind_v, value_w ∙ coefficients k h r ∙ ap neg_ℤ (sym value_v))
