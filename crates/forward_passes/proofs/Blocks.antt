-- The steps over columns and then rows make the exact elements of a block, and there is room for each.
use Rattle.std.specs.Prelude.{◌≡◌, ◌+◌, ◌*◌, ◌/◌, ◌%◌, ◌≤◌, ◌<◌}
use Rattle.integers.specs.Kit.{sym, ap, ◌∙◌, List, ℕ, suc, T, lit≤, ℤ, pos}
use native.Mathlib.Nat.{le_trans}
use native.Mathlib.Omega.{arith}
use Rattle.integers.specs.Sum.{sum}
use Rattle.integers.specs.Table.{table}
use Rattle.integers.proofs.Tables.{table_ext}
use Rattle.ring.specs.Element.{component, scale, integer, cosine, magnitudes}
use Rattle.ring.specs.Maps.{part, conjugate}
use Rattle.ring.proofs.Linear.{scale_one}
use Rattle.ring.proofs.Magnitude.{component_le}
use Rattle.limits.specs.Limits.{sample_limit, components_size}
use Rattle.dct.specs.Rows.{restricted, spans, fours, twos, odds, conjugate_of, conjugate_sign, conjugate_row}
use Rattle.dct.specs.Transform.{factor, element, step}
use Rattle.dct.proofs.Factors.{eight_factor, step_cong}
use Rattle.dct.proofs.Bound.{bound}
use Rattle.dct.proofs.Conjugates.{conjugate_of-below, conjugate-step, conjugate_integers}
use Rattle.dct.proofs.Dimensions.{first_dimension, element-double_sum, columns_then_rows}
use Rattle.dct.proofs.Parts.{restricted-step}
use Rattle.elements.specs.declared.Element.{Element}
use Rattle.elements.specs.Bound.{bit_limit, headroom}
use Rattle.elements.specs.Buffer.{Row, Rows, item, row}
use Rattle.element_rows.specs.Room.{Small, Room}
use Rattle.element_rows.proofs.Rooms.{eights, small_le, small_integer, row_room}
use Rattle.integer_step.proofs.Halves.{small_step}
use Rattle.element_steps.specs.Class.{OnlyComponents}
use Rattle.blocks.specs.Blocks.{sample, AllInRange, elements_by, elements_of, frequencies}
use Rattle.blocks.proofs.Blocks.{column, eight_frequencies, samples_small}
use Rattle.forward_passes.specs.Rows.{Columns, RowOf, number_of}

module _ {x : List ℤ} (range : AllInRange 2 x) where
  -- what the step over a column asks
  pub room-column : {c : List Element} (j : ℕ) → j < 8 → Row 8 (λ i. integer (column x j i)) c → Room 8 (bit_limit 27) c
  room-column j h C = row_room C (λ i l. small_integer (column x j i) (le_trans (samples_small range (8 * i + j) (omega arith)) (lit≤ tt)))

  frequencies_small : (j u : ℕ) → j < 8 → u < 8 → magnitudes (frequencies x j u) ≤ sample_limit * 8
  frequencies_small j u h k =
      rw (first_dimension eight_factor (column x j) u k) at (bound 0 sample_limit (column x j) (λ i l. samples_small range (8 * i + j) (omega arith)) u)

  small_frequencies : (j u : ℕ) → j < 8 → u < 8 → Small (bit_limit 23) (frequencies x j u)
  small_frequencies j u h k = record {
    eight = (eight_frequencies x j u).eight;
    within = record { within = λ i. le_trans (component_le (frequencies x j u) i) (le_trans (frequencies_small j u h k) (lit≤ tt)) };
  }

pub stepped_column : (x : List ℤ) {c e : List Element} (j : ℕ) → Row 8 (λ i. integer (column x j i)) c → Row 8 (step (λ n. part (item c n) 0)) e → Row 8 (frequencies x j) e
stepped_column x {c} j C E = record {
  at = λ u h. E.at u h ∙ step_cong factor (λ n. part (item c n) 0) (λ i. integer (column x j i)) u (λ i l. ap (λ a. part a 0) (C.at i l));
}

-- the components that the rows 0, 4, 6 and 1 have
pub spanned : T (spans factor fours 1 0) × T (spans factor fours 1 4) × T (spans factor twos 2 6) × T (spans factor odds 4 1)
unfolding sum restricted factor cosine
spanned = (tt, tt, tt, tt)

-- what stands at place u of every column

module _ {x : List (List Element)} (X : Columns x) where
  at : (j u : ℕ) → j < 8 → u < 8 → item (row x j) u ≡ frequencies X.block j u
  at j u h k = (X.steps.at j h).at u k

  small_at : (j u : ℕ) → j < 8 → u < 8 → Small (bit_limit 23) (item (row x j) u)
  small_at j u h k = rw (at j u h k) (small_frequencies X.range j u h k)

  module _ (u : ℕ) (h : u < 8) {l : List Element} (L : Row 8 (λ j. item (row x j) u) l) where
    -- what the step of its class asks: only the components of its frequency count
    pub asked_across : (m : ℕ) (k : ℕ → ℕ) → T (spans factor k (suc m) u) → Room 8 (bit_limit 23) l × OnlyComponents (suc m) k l
    asked_across m k t = (
      row_room L (λ j b. small_at j u b h),
      record { counts = λ j b. rw (L.at j b, at j u b h) (restricted-step eight_factor k m (column X.block j) u t) },
    )

    pub stepped_across : {e : List Element} → Row 8 (step (item l)) e → RowOf x u e
    stepped_across E = record { at = λ v k. E.at v k ∙ step_cong factor (item l) (λ j. item (row x j) u) v (λ j b. L.at j b) }

  pub room_stepped : (u : ℕ) → u < 8 → {e : List Element} → RowOf x u e → Room 8 headroom e
  room_stepped u h E = row_room E (λ v k. small_le (lit≤ tt) (small_step (λ j. item (row x j) u) v (λ j b. small_at j u b h)))

  -- the conjugate of a row of elements is another row of them
  module _ (w : ℕ) (h : w < 8) (plus : conjugate_sign w ≡ pos 1) where
    conjugate_at : (j : ℕ) → j < 8 → conjugate (item (row x j) (conjugate_of w)) ≡ item (row x j) w
    unfolding conjugate_row
    conjugate_at j b =
        let f = frequencies X.block j in
        ap conjugate (at j (conjugate_of w) b (conjugate_of-below w h)) ∙ sym (scale_one (conjugate (f (conjugate_of w)))) ∙ ap (λ s. scale s (conjugate (f (conjugate_of w)))) (sym plus)
        ∙ conjugate_integers (column X.block j) w h ∙ sym (at j w b h)

    pub conjugated : {e r : List Element} → RowOf x (conjugate_of w) e → Row 8 (conjugate_row (item e)) r → RowOf x w r
    unfolding conjugate_row
    conjugated {e} E R = record {
      at = λ v b.
          R.at v b ∙ ap (λ a. scale (conjugate_sign v) (conjugate a)) (E.at (conjugate_of v) (conjugate_of-below v b))
          ∙ conjugate-step (λ j. item (row x j) (conjugate_of w)) (λ j c. eights (small_at j (conjugate_of w) c (conjugate_of-below w h))) v b
          ∙ step_cong factor (λ j. conjugate (item (row x j) (conjugate_of w))) (λ j. item (row x j) w) v conjugate_at;
    }

-- columns, then rows

module _ (x : List ℤ) {s : List (List Element)} (S : Rows (frequencies x) s) where
  exact : (u v : ℕ) → u < 8 → v < 8 → step (λ j. item (row s j) u) v ≡ element 2 (sample x) (8 * u + v)
  exact u v h k =
      step_cong factor (λ j. item (row s j) u) (λ j. frequencies x j u) v (λ j l. (S.at j l).at u h)
      ∙ sym (columns_then_rows eight_factor (λ i j. sample x (8 * i + j)) u v) ∙ sym (element-double_sum eight_factor (sample x) u v h k)

  pub stored_elements : table components_size (number_of s) ≡ elements_of 2 x
  unfolding elements_by
  stored_elements = table_ext components_size _ _ same
    where
      same : (i : ℕ) → i < 512 → number_of s i ≡ component (element 2 (sample x) (i / 8)) (i % 8)
      same i h =
          let p : 8 * (i / 8 / 8) + i / 8 % 8 ≡ i / 8 = omega arith in
          ap (λ a. component a (i % 8)) (exact (i / 8 / 8) (i / 8 % 8) (omega arith) (omega arith) ∙ ap (λ (n : ℕ). element 2 (sample x) n) p)
