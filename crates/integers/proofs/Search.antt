-- The lowest index at which a test passes, as a loop that looks from the front finds it, and whether there is one, as a loop without an early
-- exit does.
use Rattle.std.specs.Prelude.{◌≡◌, ◌&&◌, ◌||◌, ◌+◌, ◌≤◌, ◌<◌, Some, None, slice_index_or}
use Rattle.integers.specs.Kit.{refl, sym, ap, ap₂, subst, ◌∙◌, Bool, true, false, cond, List, length, ℕ, zero, suc, T, ltb, leb}
use Prim.Native.Nat.{zero-le}
use native.Mathlib.Nat.{le_refl, not-suc-le-zero, lt_of_lt_of_le}
use native.Mathlib.Decide.{ℕ_discrete, dec_lt}
use native.Mathlib.Numerals.{add-one}
use native.Mathlib.Omega.{arith}
use lib.Dec.{leb-suc-suc}
use borrow.Author.Tests.{lt-ltb, le-ltb, ltb-false}
use Rattle.integers.specs.Search.{first, any, found, Tests}

-- the test f fails at each index below i, and i is at most n: what a search knows at i
pub record NoneBelow (n : ℕ) (f : ℕ → Bool) (i : ℕ) : Type 0 where
  pub room : i ≤ n
  pub fails : (k : ℕ) → k < i → f k ≡ false

module _ {n : ℕ} {f : ℕ → Bool} where
  pub none_below_0 : NoneBelow n f 0
  none_below_0 = record { room = zero-le; fails = λ k h. absurd (not-suc-le-zero h) }

  pub none_below_more : {i : ℕ} → i < n → NoneBelow n f i → f i ≡ false → NoneBelow n f (i + 1)
  none_below_more {i} h P e = record { room = omega arith; fails = λ k b. go k b (ℕ_discrete k i) }
    where
      go : (k : ℕ) → k < i + 1 → Dec (k ≡ i) → f k ≡ false
      go k b (yes p) = rw p e
      go k b (no q) = P.fails k (omega arith)

-- the search that goes on to the next index
next : (n : ℕ) (f : ℕ → Bool) → f zero ≡ false → first (suc n) f ≡ suc (first n (λ k. f (suc k)))
unfolding first
next n f e = rw e

pub first-at : (n : ℕ) (f : ℕ → Bool) (i : ℕ) → i < n → NoneBelow n f i → f i ≡ true → first n f ≡ i
unfolding first
first-at zero f i h P e = absurd (not-suc-le-zero h)
first-at (suc n) f zero h P e = rw e
first-at (suc n) f (suc i) h P e =
    next n f (P.fails zero (omega arith))
    ∙ ap suc (first-at n (λ k. f (suc k)) i (omega arith) (record { room = omega arith; fails = λ k b. P.fails (suc k) (omega arith) }) e)

pub first_none : (n : ℕ) (f : ℕ → Bool) → NoneBelow n f n → first n f ≡ n
unfolding first
first_none zero f P = refl
first_none (suc n) f P =
    next n f (P.fails zero (omega arith)) ∙ ap suc (first_none n (λ k. f (suc k)) (record { room = omega arith; fails = λ k b. P.fails (suc k) (omega arith) }))

-- two tests that agree below n
pub first_ext : (n : ℕ) (f g : ℕ → Bool) → ((k : ℕ) → k < n → f k ≡ g k) → first n f ≡ first n g
unfolding first
first_ext zero f g h = refl
first_ext (suc n) f g h =
    ap₂ (λ t k. cond t zero (suc k)) (h zero (omega arith)) (first_ext n (λ k. f (suc k)) (λ k. g (suc k)) (λ k l. h (suc k) (omega arith)))

-- no index below the first passes
pub before_first : (n : ℕ) (f : ℕ → Bool) (k : ℕ) → k < first n f → f k ≡ false
unfolding first
before_first zero f k h = absurd (not-suc-le-zero h)
before_first (suc n) f k h = go (f zero) refl k h (before_first n (λ k. f (suc k)))
  where
    go : (t : Bool) → f zero ≡ t → (k : ℕ) → k < cond (f zero) zero (suc (first n (λ k. f (suc k))))
        → ((k : ℕ) → k < first n (λ k. f (suc k)) → f (suc k) ≡ false) → f k ≡ false
    go true e k h rest = absurd (not-suc-le-zero (rw e at h))
    go false e zero h rest = e
    go false e (suc k) h rest = let l : suc k < suc (first n (λ k. f (suc k))) = rw e at h in rest k (omega arith)

-- and the first one does, where there is one
pub at_first : (n : ℕ) (f : ℕ → Bool) → first n f < n → f (first n f) ≡ true
unfolding first
at_first zero f h = absurd (not-suc-le-zero h)
at_first (suc n) f h = go (f zero) refl h (at_first n (λ k. f (suc k)))
  where
    go : (t : Bool) → f zero ≡ t → cond (f zero) zero (suc (first n (λ k. f (suc k)))) < suc n
        → (first n (λ k. f (suc k)) < n → f (suc (first n (λ k. f (suc k)))) ≡ true) → f (cond (f zero) zero (suc (first n (λ k. f (suc k))))) ≡ true
    go true e h rest = rw e e
    go false e h rest = let l : suc (first n (λ k. f (suc k))) < suc n = rw e at h in rw e (rest (omega arith))

-- there is one where any passes
pub first_below : (n : ℕ) (f : ℕ → Bool) (k : ℕ) → k < n → f k ≡ true → first n f < n
first_below n f k h e = go (dec_lt (first n f) n)
  where
    go : Dec (first n f < n) → first n f < n
    go (yes l) = l
    go (no l) = absurd (subst T (sym e ∙ before_first n f k (omega arith)) tt)

-- whether one passes

any_next : (n : ℕ) (f : ℕ → Bool) → any (suc n) f ≡ (any n f || f n)
unfolding first
any_next zero f = go (f zero)
  where
    go : (t : Bool) → ltb (cond t 0 1) 1 ≡ t
    go true = refl
    go false = refl
any_next (suc n) f = go (f zero) (first (suc n) (λ k. f (suc k))) (first n (λ k. f (suc k))) (any_next n (λ k. f (suc k)))
  where
    go : (t : Bool) (a b : ℕ) → ltb a (suc n) ≡ (ltb b n || f (suc n)) → ltb (cond t 0 (suc a)) (suc (suc n)) ≡ (ltb (cond t 0 (suc b)) (suc n) || f (suc n))
    go true a b e = rw (lt-ltb 0 (suc (suc n)) (omega arith), lt-ltb 0 (suc n) (omega arith))
    go false a b e = rw (leb-suc-suc (suc a) (suc n), leb-suc-suc (suc b) n) e

-- r says whether the test f passes below i, and i is at most n: what a loop without an early exit knows at i
pub record Asked (n : ℕ) (f : ℕ → Bool) (i : ℕ) (r : Bool) : Type 0 where
  pub room : i ≤ n
  pub so_far : r ≡ any i f

module _ {n : ℕ} {f : ℕ → Bool} where
  pub asked_none : Asked n f 0 false
  unfolding first
  asked_none = record { room = zero-le; so_far = refl }

  pub asked_more : {i : ℕ} {r t : Bool} → i < n → Asked n f i r → t ≡ f i → Asked n f (i + 1) (r || t)
  asked_more {i} h A e = record { room = omega arith; so_far = rw (add-one, any_next i f, A.so_far, e) }

  pub asked_all : {i : ℕ} {r : Bool} → n ≤ i → Asked n f i r → r ≡ any n f
  asked_all {i} h A = let all : i ≡ n = omega (arith, A.room) in rw all at A.so_far

-- one does
pub any_at : (n : ℕ) (f : ℕ → Bool) (k : ℕ) → k < n → f k ≡ true → any n f ≡ true
any_at n f k h e = lt-ltb (first n f) n (first_below n f k h e)

-- none does

pub none_any : (n : ℕ) (f : ℕ → Bool) → ((k : ℕ) → k < n → f k ≡ false) → any n f ≡ false
none_any n f h = rw (first_none n f (record { room = le_refl n; fails = h })) (le-ltb n n (le_refl n))

pub any_none : (n : ℕ) (f : ℕ → Bool) → any n f ≡ false → (k : ℕ) → k < n → f k ≡ false
any_none n f e k h = before_first n f k (lt_of_lt_of_le h (ltb-false (first n f) n e))

-- and then the search comes to the end
pub any-first : (n : ℕ) (f : ℕ → Bool) {r : Bool} → r ≡ any n f → r ≡ false → n ≡ first n f
any-first n f a e = sym (first_none n f (record { room = le_refl n; fails = any_none n f (sym a ∙ e) }))

-- q is one of the indices from a on, and comes before p: what the search for the foremost asks of each q
abbrev pub preceded_by : ℕ → (ℕ → ℕ → Bool) → ℕ → ℕ → Bool
preceded_by a before p q = leb a q && before q p

-- a test in code, asked of the item at an index
pub tested : {A : Type 0} {post : A → Bool → Type 0} {l : List A} {passes : ℕ → Bool} → Tests post l passes → {i : ℕ} {x : A} {r : Bool} → i < length l → x ≡ slice_index_or l i x
    → post x r → r ≡ passes i
tested {A} {post} {l} h {i} {x} {r} b is p = h.answers i x r b (subst (λ y. post y r) is p)

-- what a search answers

pub found_at : {n : ℕ} {f : ℕ → Bool} {i : ℕ} → i < n → NoneBelow n f i → f i ≡ true → Some i ≡ found n f
found_at {n} {f} {i} h P e = rw (any_at n f i h e, first-at n f i h P e) refl

pub found_none : (n : ℕ) (f : ℕ → Bool) → any n f ≡ false → None ≡ found n f
found_none n f e = rw e refl
