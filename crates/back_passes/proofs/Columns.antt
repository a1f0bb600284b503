-- One column on the way back: the four terms that a sample is summed of, room for them, and the store of a column.
use Rattle.std.specs.Prelude.{◌≡◌, ◌||◌, ◌+◌, ◌*◌, ◌-◌, ◌/◌, ◌%◌, ◌≤◌, ◌<◌, ◌+ℤ◌, ◌*ℤ◌}
use Rattle.integers.specs.Kit.{refl, sym, ap, ap₂, ◌∙◌, Bool, List, ℕ, T, eqb, leb, lit<, lit≤}
use Rattle.integers.specs.Kit.{ℤ, pos, nat_abs, length, get_or, set}
use Prim.Native.Nat.{zero-le}
use native.Mathlib.Nat.{le_trans, mul-le-mul, mul-le-mul_right, lt_of_le_of_lt, not-suc-le-zero}
use native.Mathlib.Decide.{ℕ_discrete}
use native.Mathlib.Omega.{arith}
use lib.Dec.{leb→le}
use lib.IntN.{+ℤ_idl, zero-*ℤ}
use lib.ListN.{length-set}
use lib.Seq.{get_or-set_same, get_or-set_other}
use borrow.Author.Tests.{ne_eqb}
use mir.Syntax.{w32}
use mir.Val.{SFits}
use Rattle.integers.specs.Sum.{sum}
use Rattle.integers.specs.Table.{PartStored}
use Rattle.integers.specs.Test.{every, eq_z, every₂}
use Rattle.integers.proofs.Magnitudes.{nat_abs_mul, small_fits}
use Rattle.integers.proofs.Signed.{in32, read_i32}
use Rattle.integers.proofs.Sums.{integers, nat_abs-products, sum_append, sum-only}
use Rattle.integers.proofs.Tests.{every-at, every₂-at, eq_z→≡}
use Rattle.ring.specs.Element.{integer, cosine}
use Rattle.dct.specs.Inverse.{known_factor, weight, weighted}
use Rattle.dct.specs.Transform.{factor}
use Rattle.elements.specs.declared.Element.{Element}
use Rattle.elements.specs.Bound.{Within, bit_limit, headroom}
use Rattle.elements.specs.Buffer.{Row, item}
use Rattle.elements.proofs.Bounds.{within_le}
use Rattle.element_rows.specs.Room.{Room}
use Rattle.element_rows.proofs.Rooms.{small_integer, row_room}
use Rattle.back_passes.specs.Passes.{four_terms, numbers}

-- place-of-1 term of a sample's sum

-- s times y, where the code reads s back from the bits of an i32
pub term_is : (s y : ℤ) → SFits w32 s → {a : List ℤ} → a ≡ integer (in32 s *ℤ y) → a ≡ integer (s *ℤ y)
term_is s y fits e = e ∙ ap (λ z. integer (z *ℤ y)) (read_i32 s fits)

-- room for it, where y is number n of the row x, and s at most w in magnitude
module _ {x : List Element} (R : Room 8 (bit_limit 27) x) (s : ℤ) (fits : SFits w32 s) (w n : ℕ) (h : nat_abs s ≤ w) (l : n < 8) where
  small_term : nat_abs (s *ℤ numbers x n) ≤ w * bit_limit 27
  small_term = rw (nat_abs_mul s (numbers x n)) (mul-le-mul h ((R.small n l).within.within 0))

  pub term-room : w * bit_limit 27 ≤ headroom → Within headroom (item x n) × SFits w32 (in32 s *ℤ numbers x n)
  term-room m =
      rw (read_i32 s fits)
      (within_le (lit≤ tt) (R.small n l).within, small_fits w32 (s *ℤ numbers x n) (lt_of_le_of_lt (le_trans small_term m) (lit< tt)))

  pub within_term : {B : ℕ} {a : List ℤ} → w * bit_limit 27 ≤ B → a ≡ integer (in32 s *ℤ numbers x n) → Within B a
  within_term m e = rw (term_is s (numbers x n) fits e) (small_integer (s *ℤ numbers x n) (le_trans small_term m)).within

-- the terms of place n whose weight is not 0: of the numbers 0 and 1, of place-of-1 that is known of frequency 2, and of place-of-1 that is known of frequency 1

-- 0, 1, 1, 0, 0, 1, 1, 0
abbrev place_of_2 : ℕ → ℕ
place_of_2 n = (n + 1) / 2 % 2

-- 0, 1, 2, 3, 3, 2, 1, 0
abbrev place_of_1 : ℕ → ℕ
place_of_1 n = n - (2 * n - 7)

allowed_or_zero : ℕ → ℕ → Bool
allowed_or_zero n k = eqb k (place_of_2 n) || (eqb k (2 + place_of_1 n) || eq_z (weight n (2 + k)) (pos 0))

unit_test : T (every 8 (λ n. eq_z (weight n 0) (pos 1)))
unfolding weight known_factor factor cosine
unit_test = tt

allowed_test : T (every₂ 8 allowed_or_zero)
unfolding allowed_or_zero weight known_factor factor cosine
allowed_test = tt

-- a sum of eight terms of which at most four are not 0
four : (f : ℕ → ℤ) (i j : ℕ) → i < 2 → j < 4 → ((k : ℕ) → k < 6 → (k ≡ i → ⊥) → (k ≡ 2 + j → ⊥) → f (2 + k) ≡ pos 0)
    → ((f 0 +ℤ f 1) +ℤ f (2 + i)) +ℤ f (2 + (2 + j)) ≡ sum (pos 0) ◌+ℤ◌ 8 f
unfolding sum
four f i j h l zero =
    integers.assoc (f 0 +ℤ f 1) (f (2 + i)) (f (2 + (2 + j))) ∙ sym (sum_append (pos 0) ◌+ℤ◌ integers 2 6 f ∙ ap₂ ◌+ℤ◌ (ap (λ (a : ℤ). a +ℤ f 1) (+ℤ_idl (f 0)))
    (sum_append (pos 0) ◌+ℤ◌ integers 2 4 (λ k. f (2 + k)) ∙ ap₂ ◌+ℤ◌
    (sum-only (pos 0) ◌+ℤ◌ integers 2 (λ k. f (2 + k)) i h (λ k b d. zero k (omega arith) d (λ e. omega arith)))
    (sum-only (pos 0) ◌+ℤ◌ integers 4 (λ k. f (2 + (2 + k))) j l (λ k b d. zero (2 + k) (omega arith) (λ e. omega arith) (λ e. d (omega arith))))))

-- so the four terms are the weighted sum of place n
pub place : (y : ℕ → ℤ) (n : ℕ) → n < 8 → {a : List ℤ}
    → a ≡ integer (four_terms y (weight n 1) (2 + place_of_2 n) (weight n (2 + place_of_2 n)) (2 + (2 + place_of_1 n)) (weight n (2 + (2 + place_of_1 n)))) → a ≡ integer (weighted y n)
unfolding weighted allowed_or_zero
place y n h made = made ∙ ap integer (rw (← unit) (four (λ k. weight n k *ℤ y k) (place_of_2 n) (place_of_1 n) (omega arith) (omega arith) none))
  where
    unit : weight n 0 ≡ pos 1
    unit = eq_z→≡ (weight n 0) (pos 1) (every-at 8 (λ n. eq_z (weight n 0) (pos 1)) unit_test n h)

    none : (k : ℕ) → k < 6 → (k ≡ place_of_2 n → ⊥) → (k ≡ 2 + place_of_1 n → ⊥) → weight n (2 + k) *ℤ y (2 + k) ≡ pos 0
    none k b d e =
        let one_of_three = every₂-at 8 allowed_or_zero allowed_test n k h (omega arith) in
        ap (λ (w : ℤ). w *ℤ y (2 + k)) (eq_z→≡ (weight n (2 + k)) (pos 0) (rw (ne_eqb k (place_of_2 n) d, ne_eqb k (2 + place_of_1 n) e) at one_of_three))
        ∙ zero-*ℤ (y (2 + k))

-- the weights of a place sum to 8, so that a column needs three bits more
weight_test : T (every 8 (λ n. leb (sum 0 ◌+◌ 8 (λ k. nat_abs (weight n k))) 8))
unfolding sum weight known_factor factor cosine
weight_test = tt

pub room-weighted : {x y : List Element} → Room 8 (bit_limit 27) x → Row 8 (λ n. integer (weighted (numbers x) n)) y → Room 8 headroom y
unfolding weighted
room-weighted {x} R Y =
    row_room Y (λ n h. small_integer (weighted (numbers x) n)
    (le_trans (nat_abs-products 8 (bit_limit 27) (weight n) (numbers x) (λ k l. (R.small k l).within.within 0))
    (le_trans (mul-le-mul_right (bit_limit 27) (leb→le _ 8 (every-at 8 (λ n. leb (sum 0 ◌+◌ 8 (λ k. nat_abs (weight n k))) 8) weight_test n h))) (lit≤ tt))))

-- a column that is stored place by place

pub record ColumnBegun (f : ℕ → ℤ) (j : ℕ) (was : List ℤ) (i : ℕ) (l : List ℤ) : Type 0 where
  pub size : length l ≡ length was
  pub room : i ≤ 8
  pub done : (n : ℕ) → n < length was → n % 8 ≡ j → n / 8 < i → get_or l n (pos 0) ≡ f n
  pub others : (n : ℕ) → n < length was → (n % 8 ≡ j → ⊥) → get_or l n (pos 0) ≡ get_or was n (pos 0)

module _ {f : ℕ → ℤ} {j : ℕ} {was : List ℤ} where
  pub column_none : ColumnBegun f j was 0 was
  column_none = record { size = refl; room = zero-le; done = λ n b q h. absurd (not-suc-le-zero h); others = λ n b d. refl }

  pub column_more : {i : ℕ} {l : List ℤ} {z : ℤ} → i < 8 → j < 8 → length was ≡ 64 → ColumnBegun f j was i l → z ≡ f (8 * i + j)
      → ColumnBegun f j was (i + 1) (set l (8 * i + j) z)
  column_more {i} {l} {z} h k whole B e = record {
    size = length-set l (8 * i + j) z ∙ B.size;
    room = omega arith;
    done = λ n b q m. new n b q m (ℕ_discrete n (8 * i + j));
    others = λ n b d. get_or-set_other l (8 * i + j) n z (pos 0) (λ q. d (let r : n ≡ 8 * i + j = q in omega arith)) ∙ B.others n b d;
  }
    where
      inside : 8 * i + j < length l
      inside = rw (B.size, whole) (omega arith)

      new : (n : ℕ) → n < length was → n % 8 ≡ j → n / 8 < i + 1 → Dec (n ≡ 8 * i + j) → get_or (set l (8 * i + j) z) n (pos 0) ≡ f n
      new n b q m (yes p) = rw p (get_or-set_same l (8 * i + j) z (pos 0) inside ∙ e)
      new n b q m (no p) = get_or-set_other l (8 * i + j) n z (pos 0) p ∙ B.done n b q (omega arith)

  pub column-all : {i : ℕ} {l : List ℤ} → 8 ≤ i → length was ≡ 64 → ColumnBegun f j was i l → PartStored (λ n. n % 8) j f was l
  column-all {l = l} h whole B = record { size = B.size; here = λ n b q. B.done n b q (let r : n < 64 = rw whole at b in omega arith); others = B.others }
