-- The store of a row of elements, one after the other, and of row after row.
use Rattle.std.specs.Prelude.{◌≡◌, ◌||◌, ◌∷◌, ◌++◌, ◌+◌, ◌*◌, ◌/◌, ◌%◌, ◌≤◌, ◌<◌}
use Rattle.integers.specs.Kit.{refl, sym, ap, ◌∙◌, Bool, true, false, cond, List, [], ℕ, T, eqb, ℤ, pos, length, get_or}
use mathlib.Core.Bool.{or-false, or_assoc}
use Prim.Native.Nat.{zero-le}
use native.Mathlib.Nat.{not-suc-le-zero}
use native.Mathlib.Decide.{ℕ_discrete}
use native.Mathlib.Omega.{arith}
use lib.Dec.{eqb→eq}
use borrow.Author.Tests.{eq-eqb, ne_eqb}
use Rattle.integers.specs.Table.{table}
use Rattle.integers.specs.Test.{every}
use Rattle.integers.proofs.Tables.{is_table, length-table}
use Rattle.integers.proofs.Tests.{every-at}
use Rattle.limits.specs.Limits.{components_size}
use Rattle.ring.specs.Element.{component}
use Rattle.dct.specs.Transform.{step, among}
use Rattle.elements.specs.declared.Element.{Element}
use Rattle.elements.specs.Buffer.{item, put, row}
use Rattle.elements.proofs.Buffers.{get_d_put}
use Rattle.forward_passes.specs.Rows.{RowOf, number_of, RowStored, RowsStored}

-- of the elements e the first v are stored as those of row u; the other rows are as they were
pub record RowBegun (e : List Element) (u : ℕ) (was : List ℤ) (v : ℕ) (l : List ℤ) : Type 0 where
  pub size : length l ≡ length was
  pub room : v ≤ 8
  pub done : (i : ℕ) → i < length was → i / 64 ≡ u → i / 8 % 8 < v → get_or l i (pos 0) ≡ component (item e (i / 8 % 8)) (i % 8)
  pub others : (i : ℕ) → i < length was → (i / 64 ≡ u → ⊥) → get_or l i (pos 0) ≡ get_or was i (pos 0)

module _ {e : List Element} {u : ℕ} {was : List ℤ} where
  pub row_none : RowBegun e u was 0 was
  row_none = record { size = refl; room = zero-le; done = λ i l q h. absurd (not-suc-le-zero h); others = λ i l d. refl }

  pub row_more : {v : ℕ} {l : List ℤ} → v < 8 → RowBegun e u was v l → RowBegun e u was (v + 1) (put l (8 * u + v) (item e v))
  unfolding put
  row_more {v} {l} h R = record {
    size = length-table (length l) _ ∙ R.size;
    room = omega arith;
    done = λ i b q h. at i (rw R.size b) ∙ new i b q h (ℕ_discrete (i / 8) (8 * u + v));
    others = λ i b d. at i (rw R.size b) ∙ rw (ne_eqb (i / 8) (8 * u + v) (λ q. d (omega arith))) (R.others i b d);
  }
    where
      at : (i : ℕ) → i < length l → get_or (put l (8 * u + v) (item e v)) i (pos 0) ≡ cond (eqb (i / 8) (8 * u + v)) (component (item e v) (i % 8)) (get_or l i (pos 0))
      at i b = get_d_put l (8 * u + v) (item e v) i b

      new : (i : ℕ) → i < length was → i / 64 ≡ u → i / 8 % 8 < v + 1 → Dec (i / 8 ≡ 8 * u + v)
          → cond (eqb (i / 8) (8 * u + v)) (component (item e v) (i % 8)) (get_or l i (pos 0)) ≡ component (item e (i / 8 % 8)) (i % 8)
      new i b q h (yes p) =
          let place : i / 8 % 8 ≡ v = omega arith in
          rw (eq-eqb (i / 8) (8 * u + v) p, place)
      new i b q h (no p) = rw (ne_eqb (i / 8) (8 * u + v) p) (R.done i b q (omega arith))

  pub row-all : {v : ℕ} {l : List ℤ} → 8 ≤ v → RowBegun e u was v l → RowStored e u was l
  row-all h R = record { size = R.size; here = λ i b q. R.done i b q (omega arith); others = R.others }

-- row after row

among_append : (us vs : List ℕ) (k : ℕ) → among (us ++ vs) k ≡ among us k || among vs k
among_append [] vs k = refl
among_append (u ∷ us) vs k = ap (λ b. eqb u k || b) (among_append us vs k) ∙ sym (or_assoc (eqb u k) (among us k) (among vs k))

-- x is read at an index after two writes, and y after the first; a and b say whether the index is among those of the first and of the second
later : (a b : Bool) {x y z : ℤ} → T (a || b) → (T a → y ≡ z) → (T b → x ≡ z) → ((T b → ⊥) → x ≡ y) → x ≡ z
later a true t p q r = q tt
later true false t p q r = r (λ f. f) ∙ p tt
later false false t p q r = absurd t

-- what is not in the two together is in neither
in_neither : (a b : Bool) → (T (a || b) → ⊥) → (T a → ⊥) × (T b → ⊥)
in_neither true b d = absurd (d tt)
in_neither false b d = (λ t. t, d)

module _ {x : List (List Element)} where
  pub one-row : {u : ℕ} {e : List Element} {was left : List ℤ} → RowOf x u e → RowStored e u was left → RowsStored x (u ∷ []) was left
  one-row {u} {e} E S = record {
    size = S.size;
    here = λ i h t.
        let q : u ≡ i / 64 = eqb→eq u (i / 64) (rw (or-false (eqb u (i / 64))) at t) in
        let r : i / 8 / 8 ≡ u = omega arith in
        let at : item e (i / 8 % 8) ≡ step (λ j. item (row x j) (i / 8 / 8)) (i / 8 % 8) = rw r (E.at (i / 8 % 8) (omega arith)) in
        S.here i h (sym q) ∙ ap (λ a. component a (i % 8)) at;
    others = λ i h d. S.others i h (λ q. d (rw (eq-eqb u (i / 64) (sym q)) tt));
  }

  pub both : {us vs : List ℕ} {l m n : List ℤ} → RowsStored x us l m → RowsStored x vs m n → RowsStored x (us ++ vs) l n
  both {us} {vs} {l} {m} P Q = record {
    size = Q.size ∙ P.size;
    here = λ i h t.
        let b : i < length m = rw P.size h in
        later (among us (i / 64)) (among vs (i / 64)) (rw (among_append us vs (i / 64)) at t) (P.here i h) (Q.here i b) (Q.others i b);
    others = λ i h d.
        let (e, f) = in_neither (among us (i / 64)) (among vs (i / 64)) (rw (among_append us vs (i / 64)) at d) in
        Q.others i (rw P.size h) f ∙ P.others i h e;
  }

  pub all-rows : {us : List ℕ} {was left : List ℤ} → T (every 8 (among us)) → length was ≡ components_size → RowsStored x us was left → left ≡ table components_size (number_of x)
  all-rows {us} {was} {left} t e S =
      is_table (pos 0) left components_size _ (S.size ∙ e) (λ i h. S.here i (rw e h) (every-at 8 (among us) t (i / 64) (omega arith)))
