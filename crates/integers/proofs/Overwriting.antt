-- A buffer whose start is written over, beyond which it is as it was: place by place, and part after part.
use Rattle.std.specs.Prelude.{◌≡◌, ◌∷◌, ◌++◌, ◌+◌, ◌-◌, ◌≤◌, ◌<◌}
use Rattle.integers.specs.Kit.{refl, sym, ap, ◌∙◌, List, [], ℕ, zero, suc, length, get_or, set, take, drop}
use mathlib.Core.List.{append_assoc}
use Prim.Native.Nat.{zero-le}
use native.Mathlib.Nat.{add-zero, zero-add, suc-add}
use native.Mathlib.Numerals.{add-one}
use native.Mathlib.Omega.{arith}
use lib.ListN.{length-append, length-take, length-drop, take-append-drop, get_or-append}
use lib.Seq.{get_or-append-add, get_or-drop, get_or-take, drop-cons, drop-drop, set_at, take_at, drop_at, drop-append-le}
use Rattle.integers.specs.Table.{table, over, over_at}
use Rattle.integers.proofs.Tables.{length-table}

module _ {A : Type 0} where
  -- tables

  pub table_append : (m n : ℕ) (f : ℕ → A) → table (m + n) f ≡ table m f ++ table n (λ i. f (m + i))
  table_append zero n f = simp zero-add
  table_append (suc m) n f = rw suc-add (ap (λ t. f zero ∷ t) (table_append m n (λ i. f (suc i)) ∙ simp suc-add))

  pub table_more : (n : ℕ) (f : ℕ → A) → table (n + 1) f ≡ table n f ++ (f n ∷ [])
  table_more n f = rw add-zero at (table_append n 1 f)

  -- what is written over a list

  pub over_none : (l : List A) → over [] l ≡ l
  unfolding over
  over_none l = refl

  pub length_over : (p l : List A) → length p ≤ length l → length (over p l) ≡ length l
  unfolding over
  length_over p l h = simp (length-append, length-drop) (omega arith)

  -- what was written
  pub take-over : (p l : List A) (n : ℕ) → length p ≡ n → take n (over p l) ≡ p
  unfolding over
  take-over p l n e = take_at p (drop (length p) l) n e

  pub get_d_over : (p l : List A) (d : A) (i : ℕ) → i < length p → get_or (over p l) i d ≡ get_or p i d
  unfolding over
  get_d_over p l d i h = get_or-append p (drop (length p) l) d i h

  pub get_d_beyond : (p l : List A) (d : A) (i : ℕ) → length p ≤ i → get_or (over p l) i d ≡ get_or l i d
  unfolding over
  get_d_beyond p l d i h =
      let split : length p + (i - length p) ≡ i = omega arith in
      rw (← split) (get_or-append-add p (drop (length p) l) (i - length p) d ∙ get_or-drop (length p) l (i - length p) d)

  -- one place more
  pub over_more : (f : ℕ → A) (i : ℕ) (l : List A) → i < length l → set (over (table i f) l) i (f i) ≡ over (table (i + 1) f) l
  unfolding over
  over_more f i l h =
      rw (table_more i f, length-append (table i f) (f i ∷ []), length-table i f, drop-cons l i (f i) h, append_assoc (table i f) (f i ∷ []), add-one i)
      (set_at (table i f) (get_or l i (f i)) (drop (suc i) l) (f i) i (length-table i f))

  -- a part of a list, which begins at index a

  pub over-start : (p l : List A) → over_at 0 p l ≡ over p l
  unfolding over_at
  over-start p l = refl

  pub over_at_none : (a : ℕ) (l : List A) → over_at a [] l ≡ l
  unfolding over_at over
  over_at_none a l = take-append-drop a l

  pub length-over_at : (a : ℕ) (p l : List A) → a + length p ≤ length l → length (over_at a p l) ≡ length l
  unfolding over_at over
  length-over_at a p l h = simp (length-append, length-take, length-drop) (omega arith)

  -- what stands before it is kept
  pub before_part : (a : ℕ) (p l : List A) (d : A) (i : ℕ) → a ≤ length l → i < a → get_or (over_at a p l) i d ≡ get_or l i d
  unfolding over_at
  before_part a p l d i h k = get_or-append (take a l) (over p (drop a l)) d i (simp length-take (omega arith)) ∙ get_or-take a l i d k

  -- it holds p
  pub in_part : (a : ℕ) (p l : List A) (d : A) (j : ℕ) → a ≤ length l → j < length p → get_or (over_at a p l) (a + j) d ≡ get_or p j d
  unfolding over_at
  in_part a p l d j h k =
      let size : length (take a l) ≡ a = simp length-take (omega arith) in
      ap (λ (n : ℕ). get_or (take a l ++ over p (drop a l)) (n + j) d) (sym size) ∙ get_or-append-add (take a l) (over p (drop a l)) j d ∙ get_d_over p (drop a l) d j k

  -- and what stands behind it is kept
  pub behind_part : (a : ℕ) (p l : List A) (d : A) (i : ℕ) → a ≤ length l → a + length p ≤ i → get_or (over_at a p l) i d ≡ get_or l i d
  unfolding over_at
  behind_part a p l d i h k =
      let size : length (take a l) ≡ a = simp length-take (omega arith) in
      let split : length (take a l) + (i - a) ≡ i = omega arith in
      let whole : a + (i - a) ≡ i = omega arith in
      ap (λ (n : ℕ). get_or (take a l ++ over p (drop a l)) n d) (sym split) ∙ get_or-append-add (take a l) (over p (drop a l)) (i - a) d
      ∙ get_d_beyond p (drop a l) d (i - a) (omega arith) ∙ get_or-drop a l (i - a) d ∙ ap (λ (n : ℕ). get_or l n d) whole

  -- one part more, where the first ends
  pub over_on : (a b : ℕ) (p q l : List A) → a ≤ length l → b ≡ a + length p → over_at b q (over_at a p l) ≡ over_at a (p ++ q) l
  unfolding over_at over
  over_on a b p q l h e =
      let m = drop a l in
      let size : length (take a l ++ p) ≡ b = simp (length-append, length-take) (omega arith) in
      rw (← append_assoc (take a l) p (drop (length p) m), take_at (take a l ++ p) (drop (length p) m) b size, drop_at (take a l ++ p) (drop (length p) m) b size)
      (rw (drop-drop (length q) (length p) m, length-append p q, append_assoc (take a l) p (q ++ drop (length p + length q) m), append_assoc p q (drop (length p + length q) m)))

  -- the rest of k places from index a on is lent, and comes back as m with q written over its start
  pub over_lent : (a k : ℕ) (q l : List A) {m : List A} → a + length q ≤ length l → length q ≤ k → m ≡ over q (take k (drop a l))
      → take a l ++ (m ++ drop k (drop a l)) ≡ over_at a q l
  unfolding over_at over
  over_lent a k q l h g e =
      let n = drop a l in
      let room : length q ≤ length (take k n) = simp (length-take, length-drop) (omega arith) in
      ap (λ t. take a l ++ t) (ap (λ t. t ++ drop k n) e ∙ append_assoc q (drop (length q) (take k n)) (drop k n)
      ∙ ap (λ t. q ++ t) (sym (drop-append-le (length q) (take k n) (drop k n) room) ∙ ap (drop (length q)) (take-append-drop k n)))

-- a loop that writes over the start of a buffer, place by place

-- the buffer, which was l, now is m: of n places to be written the first i hold f 0 to f (i - 1), and the others are as they were
pub record Begun {A : Type 0} (f : ℕ → A) (n : ℕ) (l : List A) (i : ℕ) (m : List A) : Type 0 where
  pub size : n ≤ length l
  pub room : i ≤ n
  pub written : m ≡ over (table i f) l

module _ {A : Type 0} {f : ℕ → A} {n : ℕ} {l : List A} where
  pub begun_none : n ≤ length l → Begun f n l 0 l
  begun_none h = record { size = h; room = zero-le; written = sym (over_none l) }

  pub begun_more : {i : ℕ} {m : List A} {v : A} → i < n → Begun f n l i m → v ≡ f i → Begun f n l (i + 1) (set m i v)
  begun_more {i} h B e =
      record { size = B.size; room = omega arith; written = rw (B.written, e) (over_more f i l (omega (arith, B.size))) }

  pub begun_length : {i : ℕ} {m : List A} → Begun f n l i m → length m ≡ length l
  begun_length {i} B = rw B.written (length_over (table i f) l (rw (length-table i f) (omega (arith, B.size, B.room))))

  pub begun_all : {i : ℕ} {m : List A} → n ≤ i → Begun f n l i m → m ≡ over (table n f) l
  begun_all {i} h B = let all : i ≡ n = omega (arith, B.room) in rw all at B.written
