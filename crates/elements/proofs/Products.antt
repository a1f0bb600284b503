-- Multiplying by c_k through the continued components.
use Rattle.std.specs.Prelude.{◌≡◌, ◌+◌, ◌-◌, ◌≤◌, ◌<◌, ◌+ℤ◌}
use Rattle.integers.specs.Kit.{Bool, List, ℕ, T, ltb, ℤ, pos, neg_ℤ}
use native.Mathlib.Omega.{arith}
use borrow.Author.Tests.{lt-ltb, le-ltb}
use Rattle.integers.specs.Table.{table}
use Rattle.integers.specs.Test.{eq_z, every₃}
use Rattle.integers.proofs.Tables.{is_table}
use Rattle.integers.proofs.Tests.{every₃-at, eq_z→≡}
use Rattle.ring.specs.Element.{component, only, cosine, basis_product, mul, Eight}
use Rattle.ring.specs.Maps.{LinearForm}
use Rattle.ring.proofs.Linear.{linear_self}
use Rattle.ring.proofs.Product.{mul_right}
use Rattle.ring.proofs.Components.{eight_cosine, eight_mul, form_component, linear_same}
use Rattle.ring.proofs.Forms.{form_plus, form_neg, form_cond}
use Rattle.elements.specs.Continued.{continued}

-- the continued components, by the three stretches of the index

pub continued_low : (u : List ℤ) (j : ℕ) → j < 7 → continued u j ≡ component u (7 - j)
unfolding continued
continued_low u j h = rw (lt-ltb j 7 h)

pub continued_middle : (u : List ℤ) (j : ℕ) → 7 ≤ j → j < 16 → continued u j ≡ component u (j - 7)
unfolding continued
continued_middle u j h k = rw (le-ltb j 7 h, lt-ltb j 16 k)

pub continued_high : (u : List ℤ) (j : ℕ) → 16 ≤ j → continued u j ≡ neg_ℤ (component u (23 - j))
unfolding continued
continued_high u j h = rw (le-ltb j 7 (omega arith), le-ltb j 16 h)

-- the product: both sides are linear in the element, and a test compares them at 1 and at c_1 to c_7

-- component i of the product, as a sum of two
item : ℕ → ℕ → List ℤ → ℤ
item k i a = continued a (7 + i - k) +ℤ continued a (7 + i + k)

form_continued : (j : ℕ) → LinearForm (λ a. continued a j)
unfolding continued
form_continued j = form_cond (ltb j 7) (at (7 - j)) (form_cond (ltb j 16) (at (j - 7)) (form_neg (at (23 - j))))
  where
    at : (k : ℕ) → LinearForm (λ a. component a k)
    at k = form_component (λ a. a) linear_self k

entry_at : ℕ → ℕ → ℕ → Bool
entry_at k i m = eq_z (component (mul (cosine (pos k)) (only (pos 1) m)) i) (item k i (only (pos 1) m))

entry_test : T (every₃ 8 entry_at)
unfolding entry_at item continued cosine basis_product mul
entry_test = tt

component-product : (k i : ℕ) → k < 8 → i < 8 → {a : List ℤ} → Eight a → component (mul (cosine (pos k)) a) i ≡ item k i a
unfolding entry_at item
component-product k i h l =
    linear_same (λ a. component (mul (cosine (pos k)) a) i) (item k i) (form_component (mul (cosine (pos k))) (mul_right (cosine (pos k))) i)
    (form_plus (form_continued (7 + i - k)) (form_continued (7 + i + k))) (λ m b. eq_z→≡ _ _ (every₃-at 8 entry_at entry_test k i m h l b))

-- the code's product is the ring's
pub product-table : (k : ℕ) → k < 8 → {a : List ℤ} → Eight a → mul (cosine (pos k)) a ≡ table 8 (λ i. continued a (7 + i - k) +ℤ continued a (7 + i + k))
unfolding item
product-table k h {a} e = is_table (pos 0) (mul (cosine (pos k)) a) 8 _ (eight_mul (eight_cosine (pos k)) e).eight (λ i l. component-product k i h l e)
