-- Sums and negatives of elements, and an element of one component, as the code makes them: component by component.
use Rattle.std.specs.Prelude.{◌≡◌, ◌+◌, ◌*◌, ◌<◌, ◌+ℤ◌}
use Rattle.integers.specs.Kit.{◌∙◌, cond, List, [], ℕ, zero, suc, eqb, ℤ, pos, negsuc, neg_ℤ, set, replicate}
use Prim.Native.Nat.{zero-le}
use native.Mathlib.Nat.{le_trans, add-le-add, suc-mul}
use native.Mathlib.Decide.{ℕ_discrete}
use native.Mathlib.Omega.{arith}
use lib.ListN.{length-set, get_or-replicate}
use lib.Seq.{get_or-set_same, get_or-set_other}
use borrow.Author.Tests.{eq-eqb, ne_eqb}
use Rattle.integers.specs.Sum.{sum}
use Rattle.integers.specs.Table.{table}
use Rattle.integers.proofs.Magnitudes.{nat_abs-add, nat_abs_neg}
use Rattle.integers.proofs.Tables.{is_table}
use Rattle.ring.specs.Element.{component, add, negate, subtract, only, Eight}
use Rattle.ring.proofs.Components.{eight_add, eight_scale, component-add, component-negate}
use Rattle.elements.specs.Bound.{Within}

pub add-table : {a b : List ℤ} → Eight a → Eight b → add a b ≡ table 8 (λ k. component a k +ℤ component b k)
add-table {a} {b} p q = is_table (pos 0) (add a b) 8 _ (eight_add p q).eight (λ k h. component-add a b k)

pub negate-table : {a : List ℤ} → Eight a → negate a ≡ table 8 (λ k. neg_ℤ (component a k))
negate-table {a} p = is_table (pos 0) (negate a) 8 _ (eight_scale (negsuc 0) p).eight (λ k h. component-negate a k)

pub within_add : {A B : ℕ} {a b : List ℤ} → Within A a → Within B b → Within (A + B) (add a b)
within_add {a = a} {b = b} p q =
    record { within = λ k. rw (component-add a b k) (le_trans (nat_abs-add (component a k) (component b k)) (add-le-add (p.within k) (q.within k))) }

pub within_negate : {B : ℕ} {a : List ℤ} → Within B a → Within B (negate a)
within_negate {a = a} p = record { within = λ k. rw (component-negate a k, nat_abs_neg (component a k)) (p.within k) }

pub within_subtract : {A B : ℕ} {a b : List ℤ} → Within A a → Within B b → Within (A + B) (subtract a b)
within_subtract p q = within_add p (within_negate q)

pub within_sum : (n B : ℕ) (f : ℕ → List ℤ) → ((k : ℕ) → k < n → Within B (f k)) → Within (n * B) (sum [] add n f)
unfolding sum
within_sum zero B f h = record { within = λ k. zero-le }
within_sum (suc n) B f h = rw (suc-mul n B) (within_add (within_sum n B f (λ k l. h k (omega arith))) (h n (omega arith)))

-- one store into eight zeros
pub set-only : (s : ℤ) (k : ℕ) → k < 8 → set (replicate 8 (pos 0)) k s ≡ only s k
set-only s k h = is_table (pos 0) (set (replicate 8 (pos 0)) k s) 8 _ (length-set (replicate 8 (pos 0)) k s) (λ i l. go i l (ℕ_discrete i k))
  where
    go : (i : ℕ) → i < 8 → Dec (i ≡ k) → component (set (replicate 8 (pos 0)) k s) i ≡ cond (eqb i k) s (pos 0)
    go i l (yes e) = rw (eq-eqb i k e, e) (get_or-set_same (replicate 8 (pos 0)) k s (pos 0) h)
    go i l (no n) = rw (ne_eqb i k n) (get_or-set_other (replicate 8 (pos 0)) k i s (pos 0) n ∙ get_or-replicate 8 i (pos 0) (pos 0) l)
