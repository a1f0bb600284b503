-- The foremost index in an order, as a loop that keeps the best so far finds it; there is one in every range that is not empty; and what it is.
use Rattle.std.specs.Prelude.{◌≡◌, ◌&&◌, ◌+◌, ◌-◌, ◌≤◌, ◌<◌}
use Rattle.integers.specs.Kit.{refl, sym, subst, ◌∙◌, Bool, true, false, cond, not, ℕ, zero, suc, T, leb, ℤ, pos, negsuc}
use native.Mathlib.Nat.{le_refl, le_of_lt}
use native.Mathlib.Decide.{dec_lt}
use native.Mathlib.Omega.{arith}
use lib.Dec.{leb→le}
use lib.Signed.{lt_z, lt_z_yes, lt_z_no, <ℤ-≤ℤ_trans, clash_ℤ}
use mir.Facts.{and_yes}
use borrow.Author.Tests.{le-ltb, le-leb, ltb-true, leb-true, not-false}
use Rattle.integers.specs.Search.{first, any, foremost}
use Rattle.integers.proofs.Search.{first-at, first_below, before_first, at_first, any_at, none_any, preceded_by}
use Rattle.integers.proofs.Tests.{holds}

-- an order in which two can be level

pub record Order {A : Type 0} (before : A → A → Bool) : Type 0 where
  pub asymmetric : (p q : A) → before p q ≡ true → before q p ≡ false
  -- what comes before q comes before p too, or p comes before q
  pub weak : (p q r : A) → before r q ≡ true → before r p ≡ false → before p q ≡ true

module _ {A : Type 0} {before : A → A → Bool} (O : Order before) where
  pub irreflexive : (p : A) → before p p ≡ false
  irreflexive p = go (before p p) refl
    where
      go : (t : Bool) → before p p ≡ t → t ≡ false
      go true e = sym e ∙ O.asymmetric p p e
      go false e = refl

  -- what does not come before p does not come before q, which does not come after it
  pub not_before : (p q r : A) → before p q ≡ false → before r p ≡ false → before r q ≡ false
  not_before p q r e f = go (before r q) refl
    where
      go : (t : Bool) → before r q ≡ t → t ≡ false
      go true g = sym (O.weak p q r g f) ∙ e
      go false g = refl

-- by integers

less_asymmetric : (a b : ℤ) → lt_z a b ≡ true → lt_z b a ≡ false
less_asymmetric (pos a) (pos b) e = le-ltb b a (le_of_lt (ltb-true a b e))
less_asymmetric (pos a) (negsuc b) e = absurd (subst T (sym e) tt)
less_asymmetric (negsuc a) (pos b) e = refl
less_asymmetric (negsuc a) (negsuc b) e = le-ltb a b (le_of_lt (ltb-true b a e))

-- where a is less than b and not than c, c is less than b
less_weak : (a b c : ℤ) → lt_z a b ≡ true → lt_z a c ≡ false → lt_z c b ≡ true
less_weak a b c e f = go (lt_z c b) refl
  where
    go : (t : Bool) → lt_z c b ≡ t → t ≡ true
    go true g = refl
    go false g = clash_ℤ (<ℤ-≤ℤ_trans (lt_z_yes {a = a} {b = b} (rw e tt)) (lt_z_no {a = c} {b = b} (rw g tt))) (lt_z_no {a = a} {b = c} (rw f tt))

-- where b is less than a and c is not, b is less than c
more_weak : (a b c : ℤ) → lt_z b a ≡ true → lt_z c a ≡ false → lt_z b c ≡ true
more_weak a b c e f = holds (lt_z b c) (<ℤ-≤ℤ_trans (lt_z_yes {a = b} {b = a} (rw e tt)) (lt_z_no {a = c} {b = a} (rw f tt))).lt

module _ {A : Type 0} (key : A → ℤ) where
  -- the lower comes first, and the higher

  pub lower-first : Order (λ q p. lt_z (key q) (key p))
  lower-first = record { asymmetric = λ p q. less_asymmetric (key p) (key q); weak = λ p q r. less_weak (key r) (key q) (key p) }

  pub higher-first : Order (λ q p. lt_z (key p) (key q))
  higher-first = record { asymmetric = λ p q. less_asymmetric (key q) (key p); weak = λ p q r. more_weak (key r) (key q) (key p) }

-- j is one of the indices from a on and below i, and none of them comes before it
pub record Best (a : ℕ) (before : ℕ → ℕ → Bool) (i j : ℕ) : Type 0 where
  pub from : a ≤ j
  pub below : j < i
  pub none_before : (q : ℕ) → a ≤ q → q < i → before q j ≡ false

module _ {before : ℕ → ℕ → Bool} (O : Order before) where
  pub best_first : (a : ℕ) → Best a before (a + 1) a
  best_first a = record { from = le_refl a; below = omega arith; none_before = λ q h l. let e : q ≡ a = omega arith in rw e (irreflexive O a) }

  -- one more: t says whether it comes before the best j so far
  pub best_next : {a i j : ℕ} {t : Bool} → Best a before i j → t ≡ before i j → Best a before (i + 1) (cond t i j)
  best_next {a} {i} {j} {t} B e = go t e
    where
      go : (t : Bool) → t ≡ before i j → Best a before (i + 1) (cond t i j)
      go true e = record { from = omega (arith, B.from, B.below); below = omega arith; none_before = λ q h m. either q h m (dec_lt q i) }
        where
          either : (q : ℕ) → a ≤ q → q < i + 1 → Dec (q < i) → before q i ≡ false
          either q h m (yes k) = not_before O j i q (O.asymmetric i j (sym e)) (B.none_before q h k)
          either q h m (no k) = let p : q ≡ i = omega arith in rw p (irreflexive O i)
      go false e = record { from = B.from; below = omega (arith, B.below); none_before = λ q h m. either q h m (dec_lt q i) }
        where
          either : (q : ℕ) → a ≤ q → q < i + 1 → Dec (q < i) → before q j ≡ false
          either q h m (yes k) = B.none_before q h k
          either q h m (no k) = let p : q ≡ i = omega arith in rw p (sym e)

-- the foremost, where there is a best

module _ {a : ℕ} {before : ℕ → ℕ → Bool} (O : Order before) {n j : ℕ} (B : Best a before n j) where
  abbrev stands : ℕ → Bool
  stands p = leb a p && not (any n (preceded_by a before p))

  none_precedes : {p : ℕ} → Best a before n p → (q : ℕ) → q < n → (t : Bool) → leb a q ≡ t → (t && before q p) ≡ false
  none_precedes P q l true h = P.none_before q (leb-true a q h) l
  none_precedes P q l false h = refl

  best_stands : {p : ℕ} → Best a before n p → stands p ≡ true
  best_stands {p} P = rw (le-leb a p P.from, none_any n (preceded_by a before p) (λ q l. none_precedes P q l (leb a q) refl))

  foremost-below : foremost a n before < n
  unfolding foremost
  foremost-below = first_below n stands j B.below (best_stands B)

  pub foremost_best : Best a before n (foremost a n before)
  unfolding foremost
  foremost_best =
      let p = first n stands in
      let (h, none) = and_yes (leb a p) (not (any n (preceded_by a before p))) (rw (at_first n stands foremost-below) tt) in
      record { from = leb→le a p h; below = foremost-below; none_before = λ q k l. clear p none q k l (before q p) refl }
    where
      clear : (p : ℕ) → T (not (any n (preceded_by a before p))) → (q : ℕ) → a ≤ q → q < n → (t : Bool) → before q p ≡ t → t ≡ false
      clear p none q k l true e = absurd (subst (λ t. T (not t)) (any_at n (preceded_by a before p) q l (rw (le-leb a q k, e))) none)
      clear p none q k l false e = refl

  -- it comes before each of those that stand before it
  pub foremost-first : (q : ℕ) → a ≤ q → q < foremost a n before → before (foremost a n before) q ≡ true
  unfolding foremost
  foremost-first q h l =
      let p = first n stands in
      let some : any n (preceded_by a before q) ≡ true = not-false (any n (preceded_by a before q)) (sym (rw (le-leb a q h)) ∙ before_first n stands q l) in
      let r = first n (preceded_by a before q) in
      let k = ltb-true r n some in
      let (m, e) = and_yes (leb a r) (before r q) (rw (at_first n (preceded_by a before q) k) tt) in
      O.weak p q r (holds (before r q) e) (foremost_best.none_before r (leb→le a r m) k)

  -- a best that comes before each of those that stand before it is the foremost
  pub is_foremost : ((q : ℕ) → a ≤ q → q < j → before j q ≡ true) → foremost a n before ≡ j
  unfolding foremost
  is_foremost least = first-at n stands j B.below (record { room = le_of_lt B.below; fails = λ q l. go q l (leb a q) refl }) (best_stands B)
    where
      go : (q : ℕ) → q < j → (t : Bool) → leb a q ≡ t → (t && not (any n (preceded_by a before q))) ≡ false
      go q l true h = rw (any_at n (preceded_by a before q) j B.below (rw (le-leb a j B.from, least q (leb-true a q h) l)))
      go q l false h = refl

-- v is the value of the best from a on and below i: what a loop knows at i that keeps the value, and not the index
pub record BestValue {A : Type 0} (a : ℕ) (before : ℕ → ℕ → Bool) (value : ℕ → A) (i : ℕ) (v : A) : Type 0 where
  pub index : ℕ
  pub best : Best a before i index
  pub has : v ≡ value index

module _ {A : Type 0} {before : ℕ → ℕ → Bool} {value : ℕ → A} (O : Order before) where
  pub best_value-first : (a : ℕ) {v : A} → v ≡ value a → BestValue a before value (a + 1) v
  best_value-first a e = record { index = a; best = best_first O a; has = e }

  -- one more, of the value x
  pub best_value_next : {a i : ℕ} {v x : A} {t : Bool} (K : BestValue a before value i v) → x ≡ value i → t ≡ before i K.index
      → BestValue a before value (i + 1) (cond t x v)
  best_value_next {i = i} {t = true} K e f = record { index = i; best = best_next O K.best f; has = e }
  best_value_next {t = false} K e f = record { index = K.index; best = best_next O K.best f; has = K.has }

  -- the value of the foremost, where two indices that are level have one value
  pub best_value-foremost : {a n : ℕ} {v : A} → ((p q : ℕ) → before p q ≡ false → before q p ≡ false → value p ≡ value q) → BestValue a before value n v
      → v ≡ value (foremost a n before)
  best_value-foremost level K =
      let B = K.best in
      let F = foremost_best O B in
      K.has ∙ level K.index _ (F.none_before K.index B.from B.below) (B.none_before _ F.from F.below)

-- there is a best in every range that is not empty

module _ {before : ℕ → ℕ → Bool} (O : Order before) where
  abbrev Some : ℕ → ℕ → Type 0
  Some a n = BestValue {A = Unit {0}} a before (λ i. tt) n tt

  look : (a d : ℕ) → Some a (a + 1 + d)
  look a zero = let e : a + 1 + 0 ≡ a + 1 = omega arith in rw e (best_value-first O a refl)
  look a (suc d) =
      let K = look a d in
      let i = a + 1 + d in
      let e : a + 1 + suc d ≡ i + 1 = omega arith in
      rw e (best_value_next O {t = before i K.index} K refl refl)

  pub range_best : {a n : ℕ} → a < n → Best a before n (foremost a n before)
  range_best {a} {n} l =
      let e : a + 1 + (n - suc a) ≡ n = omega arith in
      let K : Some a n = rw e at (look a (n - suc a)) in
      foremost_best O K.best
