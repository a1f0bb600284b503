-- The rows on the way back, the room for them, and the block that they restore.
use Rattle.std.specs.Prelude.{◌≡◌, ◌+◌, ◌*◌, ◌/◌, ◌%◌, ◌≤◌, ◌<◌, ◌+ℤ◌, ◌*ℤ◌, ◌&&◌}
use Rattle.integers.specs.Kit.{sym, ap, ◌∙◌, List, ℕ, T, ltb, lit<, lit≤, ℤ, pos, nat_abs, length, get_or}
use native.Mathlib.Nat.{le_trans, not-suc-le-zero}
use native.Mathlib.Decide.{ℕ_discrete}
use native.Mathlib.Omega.{arith}
use lib.Dec.{ltb→lt}
use lib.Signed.{shr_z}
use mir.Facts.{and_yes}
use Rattle.integers.specs.Table.{table, PartStored}
use Rattle.integers.specs.Test.{every}
use Rattle.integers.proofs.Tests.{every-at}
use Rattle.integers.proofs.Division.{shr_z_exact}
use Rattle.integers.proofs.Integer.{*ℤ_assoc}
use Rattle.integers.proofs.Sums.{nat_abs-sum}
use Rattle.integers.proofs.Tables.{is_table, length-table}
use Rattle.ring.specs.Element.{component, integer, cosine, mul}
use Rattle.ring.specs.Maps.{dot}
use Rattle.dct.specs.Inverse.{half_back, integer_back, known_frequency, known_component, weighted}
use Rattle.limits.specs.Limits.{places, magnitudes_limit}
use Rattle.dct.specs.Transform.{angle, factor, step}
use Rattle.dct.proofs.Factors.{eight_factor}
use Rattle.dct.proofs.Dimensions.{element-double_sum, columns_then_rows}
use Rattle.dct.proofs.IntegerBack.{angle_between, back_sum, integer_back_cong, integer_inverse, weighted_cong, weighted-times, column-restored}
use Rattle.elements.specs.declared.Element.{Element}
use Rattle.elements.specs.Bound.{bit_limit, headroom}
use Rattle.elements.specs.Buffer.{Row, Rows, element_at, item, row}
use Rattle.element_rows.specs.Room.{Small, Room}
use Rattle.elements.proofs.Bounds.{within_table}
use Rattle.element_rows.proofs.Rooms.{small_le, small_cosine, small_integer, small_dot, row_room}
use Rattle.blocks.specs.Blocks.{sample, elements_of, frequencies}
use Rattle.blocks.proofs.Blocks.{column, eight_frequencies, element_of}
use Rattle.back_passes.specs.Passes.{read_places, Limited, Numbers, Restores, row_back, known_row}

known_test : T (every 8 (λ k. ltb (known_frequency k) 5 && (ltb 0 (known_component k) && ltb (known_component k) 8)))
known_test = tt

known : (k : ℕ) → k < 8 → (known_frequency k < 5) × (0 < known_component k) × (known_component k < 8)
known k h =
    let t = every-at 8 (λ k. ltb (known_frequency k) 5 && (ltb 0 (known_component k) && ltb (known_component k) 8)) known_test k h in
    let (f, c) = and_yes (ltb (known_frequency k) 5) (ltb 0 (known_component k) && ltb (known_component k) 8) t in
    let (s, b) = and_yes (ltb 0 (known_component k)) (ltb (known_component k) 8) c in
    (ltb→lt (known_frequency k) 5 f, ltb→lt 0 (known_component k) s, ltb→lt (known_component k) 8 b)

-- c_k times element p
abbrev product : List ℤ → ℕ → ℕ → List ℤ
product e k p = mul (cosine (pos k)) (element_at e p)

module _ {e : List ℤ} (L : Limited e) where
  -- room: no number is above the limit

  small_element : (p : ℕ) → p < read_places → Small magnitudes_limit (element_at e p)
  unfolding element_at
  small_element p h = record {
    eight = length-table 8 (λ k. get_or e (8 * p + k) (pos 0));
    within = within_table magnitudes_limit 8 (λ k. get_or e (8 * p + k) (pos 0)) (λ k l. L.in_limit (8 * p + k) (omega arith));
  }

  pub room-half : (p : ℕ) → p + 6 < read_places → {l : List Element} → Row 4 (λ i. element_at e (p + 2 * i)) l → Room 4 headroom l
  room-half p h H = row_room H (λ i k. small_le (lit≤ tt) (small_element (p + 2 * i) (omega arith)))

  small_product : (k p : ℕ) → p < read_places → Small (bit_limit 24) (product e k p)
  small_product k p h = small_le (lit≤ tt) (small_cosine (pos k) (small_element p h))

  pub room_halves : (u k : ℕ) → u < 5 → {l m : List Element} → Row 4 (λ i. product e k (8 * u + 2 * i)) l → Row 4 (λ i. product e k (8 * u + 1 + 2 * i)) m
      → Room 4 (bit_limit 24) l × Room 4 (bit_limit 24) m
  room_halves u k h E O =
      (row_room E (λ i l. small_product k (8 * u + 2 * i) (omega arith)), row_room O (λ i l. small_product k (8 * u + 1 + 2 * i) (omega arith)))

  small_row : (u k n : ℕ) → u < 5 → n < 8 → nat_abs (row_back e u k n) ≤ 8 * bit_limit 24
  unfolding row_back integer_back factor
  small_row u k n h l =
      nat_abs-sum 8 (bit_limit 24) (λ v. dot (product e k (8 * u + v)) (factor v n))
      (λ v b. small_dot (angle v n) (angle_between v n b l) (small_product k (8 * u + v) (omega arith)))

  pub room-rows : {x : List (List Element)} → Rows (λ k n. integer (known_row e k n)) x → Numbers x
  room-rows X = record {
    rooms = λ k h. row_room (X.at k h) (λ n l. small_integer (known_row e k n) (le_trans (small_row (known_frequency k) (known_component k) n (known k h).0 l) (lit≤ tt)));
  }

-- what the transpose makes of a row from its halves
pub row-from_halves : (e : List ℤ) (u k : ℕ) {l m x : List Element} → Row 4 (λ i. product e k (8 * u + 2 * i)) l → Row 4 (λ i. product e k (8 * u + 1 + 2 * i)) m
    → Row 8 (λ n. integer (half_back 0 (item l) n +ℤ half_back 1 (item m) n)) x → Row 8 (λ n. integer (row_back e u k n)) x
unfolding row_back
row-from_halves e u k {l} {m} E O X = record {
  at = λ n h. X.at n h ∙ ap integer (back_sum (item l) (item m) n (λ v. product e k (8 * u + v))
      (λ i b. E.at i b ∙ ap (product e k) (omega arith)) (λ i b. O.at i b ∙ ap (product e k) (omega arith)));
}

-- the block y that has the elements, if there is one

module _ {e : List ℤ} (y : List ℤ) (has : elements_of 2 y ≡ e) where
  element_is : (u v : ℕ) → u < 8 → v < 8 → element_at e (8 * u + v) ≡ step (λ j. frequencies y j u) v
  element_is u v h k =
      ap (λ l. element_at l (8 * u + v)) (sym has) ∙ element_of eight_factor 2 y (8 * u + v) (omega arith) ∙ element-double_sum eight_factor (sample y) u v h k
      ∙ columns_then_rows eight_factor (λ i j. sample y (8 * i + j)) u v

  -- the rows are 16 times the components by which its columns are known
  row_is : (k j : ℕ) → k < 8 → j < 8 → known_row e k j ≡ pos 16 *ℤ component (frequencies y j (known_frequency k)) (known_component k)
  unfolding row_back
  row_is k j h l =
      let u = known_frequency k in
      let c = known_component k in
      integer_back_cong (λ v. product e c (8 * u + v)) (λ v. mul (cosine (pos c)) (step (λ j. frequencies y j u) v)) j
      (λ v b. ap (mul (cosine (pos c))) (element_is u v (le_trans (known k h).0 (lit≤ tt)) b))
      ∙ integer_inverse (λ j. frequencies y j u) (λ j b. eight_frequencies y j u) c (known k h).1 (known k h).2 j l

  -- and the columns 128 times the samples
  column_is : (z : ℕ → ℤ) (i j : ℕ) → i < 8 → j < 8 → ((k : ℕ) → k < 8 → z k ≡ known_row e k j) → shr_z (weighted z i) 128 ≡ column y j i
  column_is z i j h l Z =
      ap (λ a. shr_z a 128)
      (weighted_cong z (λ k. pos 16 *ℤ component (frequencies y j (known_frequency k)) (known_component k)) i (λ k b. Z k b ∙ row_is k j b l)
      ∙ weighted-times (pos 16) (λ k. component (frequencies y j (known_frequency k)) (known_component k)) i
      ∙ ap (λ (a : ℤ). pos 16 *ℤ a) (column-restored (column y j) i h) ∙ sym (*ℤ_assoc (pos 16) (pos 8) (column y j i)))
      ∙ shr_z_exact 128 (column y j i) (lit< tt)

-- sample n of the block that the rows x restore, if it is of column j
abbrev pub restored_at : List (List Element) → ℕ → ℕ → ℤ
restored_at x j n = shr_z (weighted (λ k. component (item (row x k) j) 0) (n / 8)) 128

-- the first j columns of a block are restored
pub record Restored (x : List (List Element)) (j : ℕ) (block : List ℤ) : Type 0 where
  pub size : length block ≡ places
  pub done : (n : ℕ) → n < places → n % 8 < j → get_or block n (pos 0) ≡ restored_at x (n % 8) n

module _ {x : List (List Element)} where
  pub restored_none : {block : List ℤ} → length block ≡ places → Restored x 0 block
  restored_none e = record { size = e; done = λ n h q. absurd (not-suc-le-zero q) }

  pub restored_more : {j : ℕ} {l m : List ℤ} → Restored x j l → PartStored (λ n. n % 8) j (restored_at x j) l m → Restored x (j + 1) m
  restored_more {j} {l} {m} R S = record { size = S.size ∙ R.size; done = λ n h q. at n h q (ℕ_discrete (n % 8) j) }
    where
      at : (n : ℕ) → n < places → n % 8 < j + 1 → Dec (n % 8 ≡ j) → get_or m n (pos 0) ≡ restored_at x (n % 8) n
      at n h q (yes p) = S.here n (rw R.size h) p ∙ ap (λ (i : ℕ). restored_at x i n) (sym p)
      at n h q (no p) = S.others n (rw R.size h) p ∙ R.done n h (omega arith)

  pub restored_all : {block : List ℤ} → Restored x 8 block → block ≡ table places (λ n. restored_at x (n % 8) n)
  restored_all {block} R = is_table (pos 0) block places _ R.size (λ n h. R.done n h (omega arith))

  pub restores : {e r : List ℤ} → Rows (λ k n. integer (known_row e k n)) x → r ≡ table places (λ n. restored_at x (n % 8) n) → Restores e r
  restores {e = e} X made = record { restores = λ y size has. made ∙ sym (is_table (pos 0) y places _ size (λ n h. sym (place y has n h))) }
    where
      place : (y : List ℤ) → elements_of 2 y ≡ e → (n : ℕ) → n < places → restored_at x (n % 8) n ≡ sample y n
      place y has n h =
          let split : 8 * (n / 8) + n % 8 ≡ n = omega arith in
          column_is y has (λ k. component (item (row x k) (n % 8)) 0) (n / 8) (n % 8) (omega arith) (omega arith)
          (λ k b. ap (λ a. component a 0) ((X.at k b).at (n % 8) (omega arith))) ∙ ap (sample y) split
