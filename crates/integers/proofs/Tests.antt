-- Tests that are computed: over all numbers below a bound, and for the equality of integers and of lists of them.
-- A table's rule is one such test, and one of these laws turns it into the rule at each entry.
use Rattle.std.specs.Prelude.{◌≡◌, ◌∷◌, ◌<◌}
use Rattle.integers.specs.Kit.{refl, ap, ap₂, Bool, true, false, List, [], ℕ, zero, suc, T, ℤ, pos, negsuc}
use native.Mathlib.Nat.{not-suc-le-zero}
use native.Mathlib.Decide.{ℕ_discrete}
use native.Mathlib.Omega.{arith}
use lib.Dec.{eqb→eq, eqb_refl}
use mir.Facts.{and_yes, yes_and}
use Rattle.integers.specs.Test.{every, eq_z, eq_list}
pub use Rattle.integers.specs.Test.{every₂, every₃}

-- a test that passes is true, and one that does not is false

pub holds : (t : Bool) → T t → t ≡ true
holds true h = refl
holds false h = elim h [ ]

pub fails : (t : Bool) → (T t → ⊥) → t ≡ false
fails true h = absurd (h tt)
fails false h = refl

-- ranges

pub every-at : (n : ℕ) (f : ℕ → Bool) → T (every n f) → (i : ℕ) → i < n → T (f i)
every-at zero f t i h = absurd (not-suc-le-zero h)
every-at (suc n) f t i h = go (ℕ_discrete i n) (every-at n f (and_yes (f n) (every n f) t).1 i)
  where
    go : Dec (i ≡ n) → (i < n → T (f i)) → T (f i)
    go (yes p) rest = rw p (and_yes (f n) (every n f) t).0
    go (no q) rest = rest (omega arith)

pub every_passes : (n : ℕ) (f : ℕ → Bool) → ((i : ℕ) → i < n → T (f i)) → T (every n f)
every_passes zero f h = tt
every_passes (suc n) f h = yes_and (f n) (every n f) (h n (omega arith)) (every_passes n f (λ i l. h i (omega arith)))

-- tests of all pairs, and of all triples, of numbers below n

pub every₂-at : (n : ℕ) (f : ℕ → ℕ → Bool) → T (every₂ n f) → (i j : ℕ) → i < n → j < n → T (f i j)
every₂-at n f t i j h k = every-at n (f i) (every-at n (λ i. every n (f i)) t i h) j k

pub every₃-at : (n : ℕ) (f : ℕ → ℕ → ℕ → Bool) → T (every₃ n f) → (i j k : ℕ) → i < n → j < n → k < n → T (f i j k)
every₃-at n f t i j k h l m = every₂-at n (f i) (every-at n (λ i. every₂ n (f i)) t i h) j k l m

-- equality

pub eq_z→≡ : (a b : ℤ) → T (eq_z a b) → a ≡ b
eq_z→≡ (pos a) (pos b) t = ap pos (eqb→eq a b t)
eq_z→≡ (pos a) (negsuc b) t = absurd t
eq_z→≡ (negsuc a) (pos b) t = absurd t
eq_z→≡ (negsuc a) (negsuc b) t = ap negsuc (eqb→eq a b t)

pub eq_list→≡ : (a b : List ℤ) → T (eq_list a b) → a ≡ b
eq_list→≡ [] [] t = refl
eq_list→≡ [] (y ∷ b) t = absurd t
eq_list→≡ (x ∷ a) [] t = absurd t
eq_list→≡ (x ∷ a) (y ∷ b) t = ap₂ ◌∷◌ (eq_z→≡ x y (and_yes (eq_z x y) (eq_list a b) t).0) (eq_list→≡ a b (and_yes (eq_z x y) (eq_list a b) t).1)

eq_z_refl : (a : ℤ) → T (eq_z a a)
eq_z_refl (pos a) = eqb_refl a
eq_z_refl (negsuc a) = eqb_refl a

pub eq_list_refl : (a : List ℤ) → T (eq_list a a)
eq_list_refl [] = tt
eq_list_refl (x ∷ a) = yes_and (eq_z x x) (eq_list a a) (eq_z_refl x) (eq_list_refl a)
