-- Storing an element in a buffer, as a loop over its components does it; and element after element.
use Rattle.std.specs.Prelude.{◌≡◌, ◌+◌, ◌*◌, ◌/◌, ◌%◌, ◌≤◌, ◌<◌}
use Rattle.integers.specs.Kit.{refl, sym, ap, ◌∙◌, cond, List, ℕ, eqb, ℤ, pos, length, get_or, set}
use Prim.Native.Nat.{zero-le}
use native.Mathlib.Nat.{not-suc-le-zero}
use native.Mathlib.Decide.{ℕ_discrete}
use native.Mathlib.Omega.{arith}
use lib.ListN.{length-set}
use lib.Seq.{get_or-set_same, get_or-set_other}
use borrow.Author.Tests.{eq-eqb, ne_eqb}
use Rattle.integers.specs.Table.{table}
use Rattle.integers.proofs.Tables.{is_table, length-table, get_d_table}
use Rattle.ring.specs.Element.{component, Eight}
use Rattle.ring.proofs.Components.{by_components}
use Rattle.elements.specs.Buffer.{element_at, put}

-- number i of a buffer is a component of one of its elements
pub number_at : (l : List ℤ) (i : ℕ) → component (element_at l (i / 8)) (i % 8) ≡ get_or l i (pos 0)
unfolding element_at
number_at l i =
    let index : 8 * (i / 8) + i % 8 ≡ i = omega arith in
    get_d_table 8 (λ k. get_or l (8 * (i / 8) + k) (pos 0)) (pos 0) (i % 8) (omega arith) ∙ ap (λ i. get_or l i (pos 0)) index

-- the first k components of u are stored as those of element p of l, which was l₀
pub record Stored (l₀ : List ℤ) (p : ℕ) (u : List ℤ) (k : ℕ) (l : List ℤ) : Type 0 where
  pub size : length l ≡ length l₀
  pub room : k ≤ 8
  pub done : (j : ℕ) → j < k → get_or l (8 * p + j) (pos 0) ≡ component u j
  pub others : (i : ℕ) → (i / 8 ≡ p → ⊥) → get_or l i (pos 0) ≡ get_or l₀ i (pos 0)

pub stored_none : {l₀ : List ℤ} {p : ℕ} {u : List ℤ} → Stored l₀ p u 0 l₀
stored_none = record { size = refl; room = zero-le; done = λ j h. absurd (not-suc-le-zero h); others = λ i d. refl }

pub stored_more : {l₀ : List ℤ} {p : ℕ} {u : List ℤ} {k : ℕ} {l : List ℤ} {v : ℤ} → 8 * p + 8 ≤ length l₀ → k < 8 → Stored l₀ p u k l → v ≡ component u k
    → Stored l₀ p u (k + 1) (set l (8 * p + k) v)
stored_more {l₀} {p} {u} {k} {l} {v} fit h S e = record {
  size = length-set l (8 * p + k) v ∙ S.size;
  room = omega arith;
  done = λ j b. go j b (ℕ_discrete j k);
  others = λ i d. get_or-set_other l (8 * p + k) i v (pos 0) (λ q. d (let r : i ≡ 8 * p + k = q in omega arith)) ∙ S.others i d;
}
  where
    inside : 8 * p + k < length l
    inside = rw S.size (omega arith)

    go : (j : ℕ) → j < k + 1 → Dec (j ≡ k) → get_or (set l (8 * p + k) v) (8 * p + j) (pos 0) ≡ component u j
    go j b (yes q) = rw q (get_or-set_same l (8 * p + k) v (pos 0) inside ∙ e)
    go j b (no q) = get_or-set_other l (8 * p + k) (8 * p + j) v (pos 0) (λ r. q (omega arith)) ∙ S.done j (omega arith)

-- what `put` has at an index
pub get_d_put : (l : List ℤ) (p : ℕ) (u : List ℤ) (i : ℕ) → i < length l → get_or (put l p u) i (pos 0) ≡ cond (eqb (i / 8) p) (component u (i % 8)) (get_or l i (pos 0))
unfolding put
get_d_put l p u i h = get_d_table (length l) (λ i. cond (eqb (i / 8) p) (component u (i % 8)) (get_or l i (pos 0))) (pos 0) i h

pub stored_all : {l₀ : List ℤ} {p : ℕ} {u : List ℤ} {k : ℕ} {l : List ℤ} → 8 ≤ k → Stored l₀ p u k l → l ≡ put l₀ p u
unfolding put
stored_all {l₀} {p} {u} {k} {l} h S = is_table (pos 0) l (length l₀) _ S.size (λ i b. go i (ℕ_discrete (i / 8) p))
  where
    go : (i : ℕ) → Dec (i / 8 ≡ p) → get_or l i (pos 0) ≡ cond (eqb (i / 8) p) (component u (i % 8)) (get_or l₀ i (pos 0))
    go i (yes q) =
        let split : i ≡ 8 * p + i % 8 = omega arith in
        rw (eq-eqb (i / 8) p q) (ap (λ (n : ℕ). get_or l n (pos 0)) split ∙ S.done (i % 8) (omega arith))
    go i (no q) = rw (ne_eqb (i / 8) p q) (S.others i q)

-- a loop that stores element after element: of the n elements of l the first p are f 0 to f (p - 1)
pub record ElementsStored (n : ℕ) (f : ℕ → List ℤ) (p : ℕ) (l : List ℤ) : Type 0 where
  pub size : length l ≡ 8 * n
  pub done : (i : ℕ) → i / 8 < p → get_or l i (pos 0) ≡ component (f (i / 8)) (i % 8)

module _ {n : ℕ} {f : ℕ → List ℤ} where
  pub elements_none : {l : List ℤ} → length l ≡ 8 * n → ElementsStored n f 0 l
  elements_none e = record { size = e; done = λ i h. absurd (not-suc-le-zero h) }

  pub elements_more : {p : ℕ} {l u : List ℤ} → p < n → ElementsStored n f p l → u ≡ f p → ElementsStored n f (p + 1) (put l p u)
  unfolding put
  elements_more {p} {l} {u} h S e = record {
    size = length-table (length l) _ ∙ S.size;
    done = λ i b. get_d_put l p u i (rw S.size (omega arith)) ∙ go i b (ℕ_discrete (i / 8) p);
  }
    where
      go : (i : ℕ) → i / 8 < p + 1 → Dec (i / 8 ≡ p) → cond (eqb (i / 8) p) (component u (i % 8)) (get_or l i (pos 0)) ≡ component (f (i / 8)) (i % 8)
      go i b (yes q) = rw (eq-eqb (i / 8) p q, e, q)
      go i b (no q) = rw (ne_eqb (i / 8) p q) (S.done i (omega arith))

  pub elements_all : {p : ℕ} {l : List ℤ} → n ≤ p → ElementsStored n f p l → l ≡ table (8 * n) (λ i. component (f (i / 8)) (i % 8))
  elements_all {p} {l} h S = is_table (pos 0) l (8 * n) _ S.size (λ i b. S.done i (omega arith))

-- element p of such a table is f p, where it has all of its components
pub element_stored : {n : ℕ} (f : ℕ → List ℤ) (p : ℕ) → p < n → Eight (f p) → element_at (table (8 * n) (λ i. component (f (i / 8)) (i % 8))) p ≡ f p
unfolding element_at
element_stored {n} f p h e =
    is_table (pos 0) (table 8 at) 8 (component (f p)) (length-table 8 at) (λ k l. get_d_table 8 at (pos 0) k l ∙ index k l) ∙ sym (by_components e)
  where
    at : ℕ → ℤ
    at k = get_or (table (8 * n) (λ i. component (f (i / 8)) (i % 8))) (8 * p + k) (pos 0)

    index : (k : ℕ) → k < 8 → at k ≡ component (f p) k
    index k l =
        let q : (8 * p + k) / 8 ≡ p = omega arith in
        let r : (8 * p + k) % 8 ≡ k = omega arith in
        get_d_table (8 * n) (λ i. component (f (i / 8)) (i % 8)) (pos 0) (8 * p + k) (omega arith) ∙ rw (q, r)
