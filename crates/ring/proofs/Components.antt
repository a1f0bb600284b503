-- Elements by their components: which operations keep all eight, what a component of a result is, and that an element is the
-- combination of 1 and c_1 to c_7 by its components.
use Rattle.std.specs.Prelude.{◌≡◌, ◌∷◌, ◌%◌, ◌<◌, ◌+ℤ◌, ◌*ℤ◌}
use Rattle.integers.specs.Kit.{refl, sym, ap, ◌∙◌, Bool, List, [], ℕ, zero, suc, T, eqb, ℤ, pos, negsuc, neg_ℤ, length}
use native.Mathlib.Omega.{arith}
use lib.Dec.{eqb→eq}
use lib.IntN.{+ℤ_idl, +ℤ_idr, *ℤ-zero}
use lib.Seq.{ext_get_or}
use borrow.Author.Tests.{lt-ltb}
use Rattle.integers.specs.Sum.{sum}
use Rattle.integers.specs.Table.{table}
use Rattle.integers.specs.Test.{every, eq_list}
use Rattle.integers.proofs.Integer.{*ℤ_pos1, minus-one-*ℤ}
use Rattle.integers.proofs.Tables.{is_table, length-table, get_d_table}
use Rattle.integers.proofs.Tests.{every-at, eq_list→≡}
use Rattle.ring.specs.Element.{component, add, scale, negate, only, full_turn, cosine, by_rule, basis_product, combine, mul}
pub use Rattle.ring.specs.Element.{Eight}
use Rattle.ring.specs.Maps.{Linear, LinearMap, LinearForm}
use Rattle.ring.proofs.Linear.{linear_agree, add_nil}

-- elements with all of their components

length-add : (n : ℕ) (a b : List ℤ) → length a ≡ n → length b ≡ n → length (add a b) ≡ n
length-add n [] b p q = q
length-add n (x ∷ a) [] p q = p
length-add zero (x ∷ a) (y ∷ b) p q = absurd (omega arith)
length-add (suc n) (x ∷ a) (y ∷ b) p q = ap suc (length-add n a b (omega arith) (omega arith))

pub length-scale : (s : ℤ) (a : List ℤ) → length (scale s a) ≡ length a
length-scale s [] = refl
length-scale s (x ∷ a) = ap suc (length-scale s a)

pub eight_add : {a b : List ℤ} → Eight a → Eight b → Eight (add a b)
eight_add {a} {b} p q = record { eight = length-add 8 a b p.eight q.eight }

pub eight_scale : (s : ℤ) {a : List ℤ} → Eight a → Eight (scale s a)
eight_scale s {a} p = record { eight = length-scale s a ∙ p.eight }

pub eight_only : (s : ℤ) (k : ℕ) → Eight (only s k)
eight_only s k = record { eight = refl }

turn_at : ℕ → Bool
turn_at r = eqb (length (full_turn r)) 8

turn_test : T (every 32 turn_at)
unfolding turn_at
turn_test = tt

eight_turn : (n : ℕ) → Eight (full_turn (n % 32))
unfolding turn_at
eight_turn n = record { eight = eqb→eq _ 8 (every-at 32 turn_at turn_test (n % 32) (omega arith)) }

pub eight_cosine : (m : ℤ) → Eight (cosine m)
unfolding cosine
eight_cosine m = search eight_turn

-- a combination of at least one element, and a sum of at least one
eight_combine : (f : ℕ → List ℤ) (a : List ℤ) → 0 < length a → ((k : ℕ) → k < length a → Eight (f k)) → Eight (combine f a)
eight_combine f [] p h = absurd (omega arith)
eight_combine f (x ∷ []) p h = rw add_nil (eight_scale x (h zero (omega arith)))
eight_combine f (x ∷ y ∷ a) p h =
    eight_add (eight_scale x (h zero (omega arith))) (eight_combine (λ k. f (suc k)) (y ∷ a) (omega arith) (λ k l. h (suc k) (omega arith)))

pub eight_sum : (n : ℕ) (f : ℕ → List ℤ) → 0 < n → ((k : ℕ) → k < n → Eight (f k)) → Eight (sum [] add n f)
unfolding sum
eight_sum zero f p h = absurd (omega arith)
eight_sum (suc zero) f p h = h zero (omega arith)
eight_sum (suc (suc n)) f p h = eight_add (eight_sum (suc n) f (omega arith) (λ k l. h k (omega arith))) (h (suc n) (omega arith))

eight_rule : (i j : ℕ) → Eight (by_rule i j)
eight_rule zero zero = eight_only (pos 1) 0
eight_rule zero (suc j) = eight_cosine (pos (suc j))
eight_rule (suc i) zero = eight_cosine (pos (suc i))
eight_rule (suc i) (suc j) = eight_add (eight_cosine _) (eight_cosine _)

eight_product : (i j : ℕ) → i < 8 → j < 8 → Eight (basis_product i j)
unfolding basis_product
eight_product i j h k = rw (lt-ltb i 8 h, lt-ltb j 8 k) (eight_rule i j)

pub eight_mul : {a b : List ℤ} → Eight a → Eight b → Eight (mul a b)
unfolding mul
eight_mul {a} {b} p q =
    eight_combine (λ i. combine (basis_product i) b) a (omega arith)
    (λ i h. eight_combine (basis_product i) b (omega arith) (λ j k. eight_product i j (omega arith) (omega arith)))

-- components

pub component-add : (a b : List ℤ) (k : ℕ) → component (add a b) k ≡ component a k +ℤ component b k
component-add [] b k = sym (+ℤ_idl (component b k))
component-add (x ∷ a) [] k = sym (+ℤ_idr (component (x ∷ a) k))
component-add (x ∷ a) (y ∷ b) zero = refl
component-add (x ∷ a) (y ∷ b) (suc k) = component-add a b k

pub component-scale : (s : ℤ) (a : List ℤ) (k : ℕ) → component (scale s a) k ≡ s *ℤ component a k
component-scale s [] k = sym (*ℤ-zero s)
component-scale s (x ∷ a) zero = refl
component-scale s (x ∷ a) (suc k) = component-scale s a k

pub component-negate : (a : List ℤ) (k : ℕ) → component (negate a) k ≡ neg_ℤ (component a k)
component-negate a k = component-scale (negsuc 0) a k ∙ minus-one-*ℤ (component a k)

pub negate-table : (n : ℕ) (f g : ℕ → ℤ) → ((k : ℕ) → k < n → g k ≡ neg_ℤ (f k)) → table n g ≡ negate (table n f)
negate-table n f g opposite =
    sym (is_table (pos 0) (negate (table n f)) n g (length-scale (negsuc 0) (table n f) ∙ length-table n f)
    (λ k h. component-negate (table n f) k ∙ ap neg_ℤ (get_d_table n f (pos 0) k h) ∙ sym (opposite k h)))

-- a component of a linear map's value is a linear form
pub form_component : (L : List ℤ → List ℤ) → LinearMap L → (k : ℕ) → LinearForm (λ a. component (L a) k)
form_component L l k = record {
  nil = ap (λ a. component a k) l.nil;
  sums = λ a b. ap (λ c. component c k) (l.sums a b) ∙ component-add (L a) (L b) k;
  multiples = λ s a. ap (λ c. component c k) (l.multiples s a) ∙ component-scale s (L a) k;
}

-- two elements are the same when all their components are (01, "Elements")
pub same_components : {a b : List ℤ} → Eight a → Eight b → ((k : ℕ) → k < 8 → component a k ≡ component b k) → a ≡ b
same_components {a} {b} p q h = ext_get_or (pos 0) a b (p.eight ∙ sym q.eight) (λ k l. h k (omega arith))

pub by_components : {a : List ℤ} → Eight a → a ≡ table 8 (component a)
by_components {a} e = is_table (pos 0) a 8 (component a) e.eight (λ k h. refl)

-- an element is the sum of the basis elements, each times its component

expand_table : (u : ℕ → ℤ) → combine (only (pos 1)) (table 8 u) ≡ table 8 u
expand_table u = simp (*ℤ-zero, *ℤ_pos1, +ℤ_idl, +ℤ_idr)

pub expand : {a : List ℤ} → Eight a → combine (only (pos 1)) a ≡ a
expand {a} e = rw (by_components e) (expand_table (component a))

-- c_k is the basis element k, for k from 1 to 7
basis_test : T (every 7 (λ k. eq_list (cosine (pos (suc k))) (only (pos 1) (suc k))))
unfolding cosine
basis_test = tt

pub cosine-only : (k : ℕ) → k < 7 → cosine (pos (suc k)) ≡ only (pos 1) (suc k)
cosine-only k h = eq_list→≡ _ _ (every-at 7 (λ k. eq_list (cosine (pos (suc k))) (only (pos 1) (suc k))) basis_test k h)

-- two linear maps that agree at 1 and at c_1 to c_7 are the same
pub linear_same : {B : Type 0} {none : B} {plus : B → B → B} {times : ℤ → B → B} (L M : List ℤ → B) → Linear none plus times L → Linear none plus times M
    → ((k : ℕ) → k < 8 → L (only (pos 1) k) ≡ M (only (pos 1) k)) → {a : List ℤ} → Eight a → L a ≡ M a
linear_same L M l m h {a} e =
    ap L (sym (expand e)) ∙ linear_agree L M l m (only (pos 1)) a (λ k b. h k (rw e.eight at b)) ∙ ap M (expand e)
