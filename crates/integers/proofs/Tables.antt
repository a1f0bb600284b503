-- Lists given by a rule, and the invariant of a loop that fills a buffer from the front.
use Rattle.std.specs.Prelude.{◌≡◌, ◌∷◌, ◌+◌, ◌≤◌, ◌<◌}
use Rattle.integers.specs.Kit.{refl, sym, ap, ap₂, ◌∙◌, List, [], ℕ, zero, suc, length, get_or, set}
use Prim.Native.Nat.{zero-le}
use native.Mathlib.Omega.{arith}
use native.Mathlib.Nat.{le_of_suc-le-suc, not-suc-le-zero}
use native.Mathlib.Decide.{ℕ_discrete}
use lib.ListN.{length-set}
use lib.Seq.{ext_get_or, get_or-set_same, get_or-set_other}
use Rattle.integers.specs.Table.{table}

module _ {A : Type 0} where
  pub length-table : (n : ℕ) (f : ℕ → A) → length (table n f) ≡ n
  length-table zero f = refl
  length-table (suc n) f = ap suc (length-table n (λ k. f (suc k)))

  pub get_d_table : (n : ℕ) (f : ℕ → A) (d : A) (k : ℕ) → k < n → get_or (table n f) k d ≡ f k
  get_d_table zero f d k h = absurd (not-suc-le-zero h)
  get_d_table (suc n) f d zero h = refl
  get_d_table (suc n) f d (suc k) h = get_d_table n (λ j. f (suc j)) d k (le_of_suc-le-suc h)

  -- a list of n entries, of which entry k is f k, is the table of f
  pub is_table : (d : A) (l : List A) (n : ℕ) (f : ℕ → A) → length l ≡ n → ((k : ℕ) → k < n → get_or l k d ≡ f k) → l ≡ table n f
  is_table d l n f e h =
      ext_get_or d l (table n f) (e ∙ sym (length-table n f)) (λ i b. let k : i < n = rw e at b in h i k ∙ sym (get_d_table n f d i k))

  -- two rules that agree below n have the same table
  pub table_ext : (n : ℕ) (f g : ℕ → A) → ((k : ℕ) → k < n → f k ≡ g k) → table n f ≡ table n g
  table_ext zero f g h = refl
  table_ext (suc n) f g h = ap₂ ◌∷◌ (h zero (omega arith)) (table_ext n (λ k. f (suc k)) (λ k. g (suc k)) (λ k b. h (suc k) (omega arith)))

-- P holds at each index of a list of four, and of eight, if it holds at each one by one

module _ {A : Type 0} (none : A) (P : ℕ → A → Type 0) where
  pub listed_4 : {a b c d : A} → P 0 a → P 1 b → P 2 c → P 3 d → (k : ℕ) → k < 4 → P k (get_or (a ∷ b ∷ c ∷ d ∷ []) k none)
  listed_4 p q r s zero h = p
  listed_4 p q r s (suc zero) h = q
  listed_4 p q r s (suc (suc zero)) h = r
  listed_4 p q r s (suc (suc (suc zero))) h = s
  listed_4 p q r s (suc (suc (suc (suc k)))) h = absurd (omega arith)

module _ {A : Type 0} (none : A) (P : ℕ → A → Type 0) where
  pub listed_8 : {a b c d e f g h : A} → P 0 a → P 1 b → P 2 c → P 3 d → P 4 e → P 5 f → P 6 g → P 7 h
      → (k : ℕ) → k < 8 → P k (get_or (a ∷ b ∷ c ∷ d ∷ e ∷ f ∷ g ∷ h ∷ []) k none)
  listed_8 p q r s t u v w zero l = p
  listed_8 p q r s t u v w (suc zero) l = q
  listed_8 p q r s t u v w (suc (suc zero)) l = r
  listed_8 p q r s t u v w (suc (suc (suc zero))) l = s
  listed_8 p q r s t u v w (suc (suc (suc (suc k)))) l = listed_4 none (λ k. P (suc (suc (suc (suc k))))) t u v w k (omega arith)

-- a loop that fills a buffer from the front

-- the buffer l has n places, and P holds of each of the first i; d is what `get_or` gives past the end
pub record Each {A : Type 0} (d : A) (n : ℕ) (P : ℕ → A → Type 0) (i : ℕ) (l : List A) : Type 0 where
  pub size : length l ≡ n
  pub room : i ≤ n
  pub done : (k : ℕ) → k < i → P k (get_or l k d)

module _ {A : Type 0} {d : A} {n : ℕ} {P : ℕ → A → Type 0} where
  pub each_none : {l : List A} → length l ≡ n → Each d n P 0 l
  each_none e = record { size = e; room = zero-le; done = λ k h. absurd (not-suc-le-zero h) }

  pub each_more : {i : ℕ} {l : List A} {v : A} → i < n → Each d n P i l → P i v → Each d n P (i + 1) (set l i v)
  each_more {i} {l} {v} h F p =
      record { size = length-set l i v ∙ F.size; room = omega arith; done = λ k b. go k b (ℕ_discrete k i) }
    where
      go : (k : ℕ) → k < i + 1 → Dec (k ≡ i) → P k (get_or (set l i v) k d)
      go k b (yes e) = rw (e, get_or-set_same l i v d (rw F.size h)) p
      go k b (no q) = rw (get_or-set_other l i k v d q) (F.done k (omega arith))

-- the first i places hold f 0 to f (i - 1)
pub record Filled {A : Type 0} (d : A) (n : ℕ) (f : ℕ → A) (i : ℕ) (l : List A) : Type 0 where
  pub each : Each d n (λ k v. v ≡ f k) i l

module _ {A : Type 0} {d : A} {n : ℕ} {f : ℕ → A} where
  pub filled_none : {l : List A} → length l ≡ n → Filled d n f 0 l
  filled_none e = record { each = each_none e }

  pub filled_more : {i : ℕ} {l : List A} {v : A} → i < n → Filled d n f i l → v ≡ f i → Filled d n f (i + 1) (set l i v)
  filled_more h F e = record { each = each_more h F.each e }

  pub filled_all : {i : ℕ} {l : List A} → n ≤ i → Filled d n f i l → l ≡ table n f
  filled_all {i} {l} h F = is_table d l n f F.each.size (λ k b. F.each.done k (omega arith))
