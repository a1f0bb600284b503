-- The least and the greatest value of words: what they are, and how the loops along a block and along the sheet keep them. Both are what is picked by an
-- order, for which the laws are stated.
use Rattle.std.specs.Prelude.{◌≡◌, ◌+◌, ◌-◌, ◌*◌, ◌/◌, ◌^◌, ◌≤◌, ◌<◌}
use Rattle.integers.specs.Kit.{refl, ap, ap₂, ◌∙◌, Bool, true, false, cond, List, ℕ, zero, suc, lit<, lit≤, ℤ, nat_abs, length}
use native.Mathlib.Nat.{lt_of_le_of_lt}
use native.Mathlib.Decide.{dec_lt}
use native.Mathlib.Omega.{arith}
use Rattle.std.proofs.lemmas.Int.{ints}
use lib.Ieee.{Float}
use lib.Signed.{lt_z}
use mir.Syntax.{w32}
use Rattle.std.specs.Int.{int_max}
use Rattle.integers.proofs.Foremost as order
use Rattle.integers.proofs.Foremost.{Order, irreflexive, not_before}
use Rattle.integers.proofs.Signed.{in32, kept}
use Rattle.limits.specs.Limits.{places, coefficient_limit}
use Rattle.floats.specs.Fraction.{coefficient_float, exact_limit}
use Rattle.floats.proofs.Fractions.{few_digits}
use Rattle.sheet_checks.specs.Check.{coefficient_format, value_at, blocks}
use Rattle.sheet_checks.specs.Sheets.{ValidSheet}
use Rattle.sheet_checks.proofs.Sheets.{some_blocks, coefficients_in_limit}
use Rattle.sheet_range.specs.Preconditions.{InBody}
use Rattle.sheet_range.specs.SheetRange.{picked}

-- the lower comes first, and the higher

pub by_lower : Order lt_z
by_lower = order.lower-first (λ z. z)

pub by_higher : Order (λ y z. lt_z z y)
by_higher = order.higher-first (λ z. z)

-- of x and y the one that comes first, and x where neither does
abbrev pub pick : (ℤ → ℤ → Bool) → ℤ → ℤ → ℤ
pick before x y = cond (before y x) y x

-- the greater of two is the one that comes first, or both are it
greater : (x y : ℤ) → int_max x y ≡ pick (λ y z. lt_z z y) x y
greater x y = go (lt_z y x) (lt_z x y) refl refl
  where
    go : (t u : Bool) → lt_z y x ≡ t → lt_z x y ≡ u → cond t x y ≡ cond u y x
    go true true e g = let no = by_lower.asymmetric y x e in absurd (cc)
    go true false e g = refl
    go false true e g = refl
    go false false e g = omega (arith, ints)

module _ {before : ℤ → ℤ → Bool} (O : Order before) where
  pick_assoc : (x y z : ℤ) → pick before (pick before x y) z ≡ pick before x (pick before y z)
  pick_assoc x y z = go (before y x) (before z y) refl refl
    where
      go : (t u : Bool) → before y x ≡ t → before z y ≡ u → pick before (cond t y x) z ≡ pick before x (cond u z y)
      go true true e g = rw (g, O.weak z x y e (O.asymmetric z y g))
      go true false e g = rw (g, e)
      go false true e g = refl
      go false false e g = rw (e, not_before O y x z e g)

  module _ (f : ℕ → ℤ) where
    -- two stretches, one after the other
    pub picked_joined : (a m n : ℕ) → picked (pick before) f a (m + suc n) ≡ pick before (picked (pick before) f a m) (picked (pick before) f (a + suc m) n)
    unfolding picked
    picked_joined a m zero = let e : m + 1 ≡ suc m = omega arith in rw e
    picked_joined a m (suc n) =
        let e : m + suc (suc n) ≡ suc (m + suc n) = omega arith in
        let i : a + suc (m + suc n) ≡ a + suc m + suc n = omega arith in
        rw (e, i, picked_joined a m n) (pick_assoc _ _ _)

    -- what all have, the one that is picked has
    pub picked_has : (P : ℤ → Type 0) (a n : ℕ) → ((j : ℕ) → a ≤ j → j ≤ a + n → P (f j)) → P (picked (pick before) f a n)
    unfolding picked
    picked_has P a zero h = h a (omega arith) (omega arith)
    picked_has P a (suc n) h = go (before (f (a + suc n)) _) (picked_has P a n (λ j k l. h j k (omega arith))) (h (a + suc n) (omega arith) (omega arith))
      where
        go : {x y : ℤ} (t : Bool) → P x → P y → P (cond t y x)
        go true p q = q
        go false p q = p

    -- none comes before it
    pub picked_first : (a n j : ℕ) → a ≤ j → j ≤ a + n → before (f j) (picked (pick before) f a n) ≡ false
    unfolding picked
    picked_first a zero j h l = let e : j ≡ a = omega arith in rw e (irreflexive O (f a))
    picked_first a (suc n) j h l = go _ (before (f (a + suc n)) _) refl (λ k. picked_first a n j h k) (dec_lt (a + n) j)
      where
        go : (m : ℤ) (t : Bool) → before (f (a + suc n)) m ≡ t → (j ≤ a + n → before (f j) m ≡ false) → Dec (a + n < j)
            → before (f j) (cond t (f (a + suc n)) m) ≡ false
        go m true e r (yes k) = let i : j ≡ a + suc n = omega arith in rw i (irreflexive O (f (a + suc n)))
        go m true e r (no k) = not_before O m (f (a + suc n)) (f j) (O.asymmetric (f (a + suc n)) m e) (r (omega arith))
        go m false e r (yes k) = let i : j ≡ a + suc n = omega arith in rw i e
        go m false e r (no k) = r (omega arith)

-- of the values of word a and the n words behind it, the one that comes first
abbrev pub extreme : (ℤ → ℤ → Bool) → List ℕ → ℕ → ℕ → ℤ
extreme before words = picked (pick before) (value_at words)

-- along a block: v is the extreme of word a and of those behind it before word i

pub record BlockExtreme (before : ℤ → ℤ → Bool) (words : List ℕ) (a i : ℕ) (v : ℤ) : Type 0 where
  pub body : InBody words a
  pub behind : ℕ
  pub here : i ≡ a + suc behind
  pub room : behind < places
  pub is : v ≡ extreme before words a behind

module _ {words : List ℕ} {a : ℕ} (B : InBody words a) where
  -- a sheet is short, so that indices fit
  pub low_index : a + places < 2 ^ 16
  low_index = let l = B.room in omega (arith, B.right.valid_shape.count, B.right.valid_shape.few_blocks)

  -- the values of the block are small, and read back as they are

  at_most : (i : ℕ) → a ≤ i → i < a + places → nat_abs (value_at words i) ≤ coefficient_limit
  at_most i h l = let m = B.from in let k = B.room in coefficients_in_limit B.right i (omega arith) (omega arith)

  read : (i : ℕ) → a ≤ i → i < a + places → in32 (value_at words i) ≡ value_at words i
  read i h l = kept w32 (value_at words i) (lt_of_le_of_lt (at_most i h l) (lit< tt))

  pub value-first : {before : ℤ → ℤ → Bool} {z : ℤ} → z ≡ value_at words a → BlockExtreme before words a (a + 1) (in32 z)
  unfolding picked
  value-first e =
      record { body = B; behind = 0; here = omega arith; room = lit< tt; is = ap in32 e ∙ read a (omega arith) (omega arith) }

  small : {before : ℤ → ℤ → Bool} → Order before → (n : ℕ) → n < places → nat_abs (extreme before words a n) ≤ coefficient_limit
  small O n h = picked_has O (value_at words) (λ z. nat_abs z ≤ coefficient_limit) a n (λ j g l. at_most j g (omega arith))

module _ {before : ℤ → ℤ → Bool} (O : Order before) {words : List ℕ} {a i : ℕ} {v : ℤ} (R : BlockExtreme before words a i v) where
  -- r is picked of it and of the value z of the next word
  pub value_next : i < a + places → {z r : ℤ} → z ≡ value_at words i → r ≡ pick before v (in32 z) → BlockExtreme before words a (i + 1) (in32 r)
  unfolding picked
  value_next m {z} e f =
      let n = suc R.behind in
      let l : n < places = omega (arith, R.here) in
      let at : in32 z ≡ value_at words (a + n) = ap in32 (e ∙ ap (value_at words) R.here) ∙ read R.body (a + n) (omega arith) (omega arith) in
      record {
        body = R.body;
        behind = n;
        here = omega (arith, R.here);
        room = l;
        is = ap in32 (f ∙ ap₂ (pick before) R.is at) ∙ kept w32 _ (lt_of_le_of_lt (small R.body O n l) (lit< tt));
      }

  pub value_small : nat_abs v ≤ coefficient_limit
  value_small = rw R.is (small R.body O R.behind R.room)

  -- past the block
  pub block-extreme : a + places ≤ i → v ≡ extreme before words a (places - 1)
  block-extreme e = let all : R.behind ≡ places - 1 = omega (arith, R.here, R.room) in rw all at R.is

pub value_next_higher : {words : List ℕ} {a i : ℕ} {v : ℤ} → BlockExtreme (λ y z. lt_z z y) words a i v → i < a + places → {z r : ℤ} → z ≡ value_at words i
    → r ≡ int_max v (in32 z) → BlockExtreme (λ y z. lt_z z y) words a (i + 1) (in32 r)
value_next_higher {v} R m {z} e f = value_next by_higher R m e (f ∙ greater v (in32 z))

-- along the sheet: x is the float of the extreme of the first block and `more` others, which are k

pub record SheetExtreme (before : ℤ → ℤ → Bool) (words : List ℕ) (k : ℕ) (x : Float) : Type 0 where
  pub right : ValidSheet coefficient_format words
  pub more : ℕ
  pub here : k ≡ suc more
  pub room : more < blocks words
  pub is : x ≡ coefficient_float (extreme before words 1 (places - 1 + places * more))

-- the float of one of two
of_one : (t : Bool) (y z : ℤ) → cond t (coefficient_float y) (coefficient_float z) ≡ coefficient_float (cond t y z)
of_one true y z = refl
of_one false y z = refl

module _ {words : List ℕ} (S : ValidSheet coefficient_format words) where
  pub first_body : InBody words 1
  first_body = let b = some_blocks S.valid_shape in record { right = S; from = lit≤ tt; room = omega (arith, S.valid_shape.count) }

  -- a value has few digits, and so has an extreme

  pub in_digits : (i : ℕ) → 1 ≤ i → suc i < length words → nat_abs (value_at words i) < exact_limit
  in_digits i h l = few_digits (value_at words i) (coefficients_in_limit S i h l)

  pub extreme_digits : {before : ℤ → ℤ → Bool} → Order before → (a n : ℕ) → 1 ≤ a → suc (a + n) < length words → nat_abs (extreme before words a n) < exact_limit
  extreme_digits O a n h l = picked_has O (value_at words) (λ z. nat_abs z < exact_limit) a n (λ j g k. in_digits j (omega arith) (omega arith))

  pub float_first : {before : ℤ → ℤ → Bool} {x : Float} → x ≡ coefficient_float (extreme before words 1 (places - 1)) → SheetExtreme before words 1 x
  float_first e = record { right = S; more = 0; here = refl; room = some_blocks S.valid_shape; is = e }

module _ {before : ℤ → ℤ → Bool} (O : Order before) {words : List ℕ} {k : ℕ} {x : Float} (F : SheetExtreme before words k x) where
  count : length words ≡ 2 + places * blocks words
  count = F.right.valid_shape.count

  -- past the last block
  pub sheet-extreme : length words / places ≤ k → x ≡ coefficient_float (extreme before words 1 (length words - 3))
  sheet-extreme l =
      let done : places - 1 + places * F.more ≡ length words - 3 = omega (arith, F.here, F.room, count) in
      rw done at F.is

  module _ (l : k < length words / places) where
    more_blocks : suc F.more < blocks words
    more_blocks = omega (arith, F.here, count)

    pub next_body : InBody words (1 + places * k)
    next_body = record { right = F.right; from = omega arith; room = omega (arith, F.here, more_blocks, count) }

    -- the extremes before block k, and of it, have few digits
    pub both_digits : (nat_abs (extreme before words 1 (places - 1 + places * F.more)) < exact_limit) × (nat_abs (extreme before words (1 + places * k) (places - 1)) < exact_limit)
    both_digits =
        let room = next_body.room in (
          extreme_digits F.right O 1 (places - 1 + places * F.more) (lit≤ tt) (omega (arith, F.here)),
          extreme_digits F.right O (1 + places * k) (places - 1) next_body.from (omega arith),
        )

    -- y is the float of the block's, and t says whether it comes first
    pub float_next : {y : Float} {t : Bool} → y ≡ coefficient_float (extreme before words (1 + places * k) (places - 1))
        → t ≡ before (extreme before words (1 + places * k) (places - 1)) (extreme before words 1 (places - 1 + places * F.more))
        → SheetExtreme before words (k + 1) (cond t y x)
    float_next e g =
        let n = places - 1 + places * F.more in
        let a : 1 + suc n ≡ 1 + places * k = omega (arith, F.here) in
        let m : n + suc (places - 1) ≡ places - 1 + places * suc F.more = omega arith in
        record {
          right = F.right;
          more = suc F.more;
          here = omega (arith, F.here);
          room = more_blocks;
          is = rw (e, F.is, g, of_one _ (extreme before words (1 + places * k) (places - 1)) (extreme before words 1 n), ← a, ← m, picked_joined O (value_at words) 1 n (places - 1));
        }
