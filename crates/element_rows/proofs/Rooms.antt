-- Rows of elements: how far the operations let them grow, and arrays that are written out.
use Rattle.std.specs.Prelude.{◌≡◌, ◌∷◌, ◌+◌, ◌*◌, ◌/◌, ◌%◌, ◌≤◌, ◌<◌}
use Rattle.integers.specs.Kit.{refl, sym, ap₂, ◌∙◌, List, [], ℕ, ℤ, pos, negsuc, neg_ℤ, nat_abs}
use native.Mathlib.Decide.{ℕ_discrete}
use native.Mathlib.Omega.{arith}
use Rattle.integers.specs.Sum.{sum}
use Rattle.integers.proofs.Magnitudes.{nat_abs_neg}
use Rattle.integers.proofs.Tables.{listed_4, listed_8}
use Rattle.ring.specs.Element.{component, add, subtract, only, integer, cosine, mul, Eight}
use Rattle.ring.specs.Maps.{part, conjugate, dot}
use Rattle.ring.proofs.Components.{eight_add, eight_scale, eight_mul, eight_only, eight_cosine, eight_sum}
use Rattle.ring.proofs.Conjugates.{conjugate_components}
use Rattle.elements.specs.declared.Element.{Element}
use Rattle.elements.specs.Bound.{Within}
use Rattle.elements.specs.Buffer.{Row, Rows, item}
use Rattle.element_rows.specs.Room.{Small, Room}
use Rattle.elements.specs.Angle.{index, signed}
use Rattle.elements.proofs.Angles.{signed_size, integer-times, dot_is}
use Rattle.elements.proofs.Bounds.{within_le, within_nil, within_cons, within_only, within_cosine}
use Rattle.elements.proofs.Componentwise.{within_add, within_subtract, within_sum}

pub eights : {B : ℕ} {a : List ℤ} → Small B a → Eight a
eights s = record { eight = s.eight }

small : {B : ℕ} {a : List ℤ} → Eight a → Within B a → Small B a
small e w = record { eight = e.eight; within = w }

pub small_le : {A B : ℕ} {a : List ℤ} → A ≤ B → Small A a → Small B a
small_le l s = record { eight = s.eight; within = within_le l s.within }

pub small_add : {A B : ℕ} {a b : List ℤ} → Small A a → Small B b → Small (A + B) (add a b)
small_add p q = small (eight_add (eights p) (eights q)) (within_add p.within q.within)

pub small_subtract : {A B : ℕ} {a b : List ℤ} → Small A a → Small B b → Small (A + B) (subtract a b)
small_subtract p q = small (eight_add (eights p) (eight_scale (negsuc 0) (eights q))) (within_subtract p.within q.within)

pub small_conjugate : {B : ℕ} {a : List ℤ} → Small B a → Small B (conjugate a)
small_conjugate {B} {a} p =
    rw (conjugate_components (eights p))
    (record { eight = refl; within = same 0 (negative 3 (same 6 (same 7 (negative 4 (same 1 (negative 2 (same 5 within_nil))))))) })
  where
    same : (k : ℕ) {l : List ℤ} → Within B l → Within B (component a k ∷ l)
    same k = within_cons (p.within.within k)

    negative : (k : ℕ) {l : List ℤ} → Within B l → Within B (neg_ℤ (component a k) ∷ l)
    negative k = within_cons (rw (nat_abs_neg (component a k)) (p.within.within k))

pub small_cosine : (m : ℤ) {B : ℕ} {a : List ℤ} → Small B a → Small (B + B) (mul (cosine m) a)
small_cosine m p = small (eight_mul (eight_cosine m) (eights p)) (within_cosine m (eights p) p.within)

pub small_sum : (n B : ℕ) (f : ℕ → List ℤ) → 0 < n → ((k : ℕ) → k < n → Small B (f k)) → Small (n * B) (sum [] add n f)
small_sum n B f some s = small (eight_sum n f some (λ k h. eights (s k h))) (within_sum n B f (λ k h. (s k h).within))

-- whole numbers

small_only : {B : ℕ} (s : ℤ) (k : ℕ) → nat_abs s ≤ B → Small B (only s k)
small_only s k l = small (eight_only s k) (within_le l (within_only s k))

pub small_integer : {B : ℕ} (s : ℤ) → nat_abs s ≤ B → Small B (integer s)
small_integer s = small_only s 0

pub small_part : {B : ℕ} {a : List ℤ} (k : ℕ) → Small B a → Small B (part a k)
small_part {a = a} k p = small_integer (component a k) (p.within.within k)

-- a product of one with a cosine needs no more
pub small_integer-times : {B : ℕ} {a : List ℤ} (m : ℕ) → 0 < m % 8 → Small B a → Small B (mul (part a 0) (cosine (pos m)))
small_integer-times {a = a} m h p =
    rw (← integer-times m h (component a 0)) (small_only (signed (component a 0) m) (index m) (rw (signed_size (component a 0) m) (p.within.within 0)))

pub small_dot : {B : ℕ} {a : List ℤ} (m : ℕ) → 0 < m % 8 → Small B a → nat_abs (dot a (cosine (pos m))) ≤ B
small_dot {a = a} m h p = rw (← dot_is m h (eights p), signed_size (component a (index m)) m) (p.within.within (index m))

-- a sum of four, term by term
pub add_four : {a b c d e f g h : List ℤ} → a ≡ e → b ≡ f → c ≡ g → d ≡ h → add (add (add a b) c) d ≡ add (add (add e f) g) h
add_four p q r s = ap₂ add (ap₂ add (ap₂ add p q) r) s

-- rows, element by element

pub row_4 : {f : ℕ → List ℤ} {l : List Element} → item l 0 ≡ f 0 → item l 1 ≡ f 1 → item l 2 ≡ f 2 → item l 3 ≡ f 3 → Row 4 f l
row_4 {f} {l} p q r s = record { at = listed_4 {A = ℕ} 0 (λ k x. item l k ≡ f k) {a = 0} {b = 0} {c = 0} {d = 0} p q r s }

pub row_8 : {f : ℕ → List ℤ} {a b c d e g h i : Element} → a.components ≡ f 0 → b.components ≡ f 1 → c.components ≡ f 2 → d.components ≡ f 3
    → e.components ≡ f 4 → g.components ≡ f 5 → h.components ≡ f 6 → i.components ≡ f 7 → Row 8 f (a ∷ b ∷ c ∷ d ∷ e ∷ g ∷ h ∷ i ∷ [])
row_8 {f} p q r s t u v w = record { at = listed_8 {A = Element} (record { components = [] }) (λ k x. x.components ≡ f k) p q r s t u v w }

-- what `join` says of the row r that it makes: e has its even frequencies, and o its odd ones
pub joined_row : {e o r : List Element} (f : ℕ → List ℤ) → Row 4 (λ i. item r (2 * i)) e × Row 4 (λ i. item r (2 * i + 1)) o
    → Row 4 (λ i. f (2 * i)) e → Row 4 (λ i. f (2 * i + 1)) o → Row 8 f r
joined_row {r = r} f (E, O) F G = record { at = λ k h. go k h (ℕ_discrete (k % 2) 0) }
  where
    go : (k : ℕ) → k < 8 → Dec (k % 2 ≡ 0) → item r k ≡ f k
    go k h (yes q) =
        let i : 2 * (k / 2) ≡ k = omega arith in
        rw i at (sym (E.at (k / 2) (omega arith)) ∙ F.at (k / 2) (omega arith))
    go k h (no q) =
        let i : 2 * (k / 2) + 1 ≡ k = omega arith in
        rw i at (sym (O.at (k / 2) (omega arith)) ∙ G.at (k / 2) (omega arith))

pub joined_room : {e o r : List Element} {B : ℕ} → Row 4 (λ i. item r (2 * i)) e × Row 4 (λ i. item r (2 * i + 1)) o → Room 4 B e → Room 4 B o → Room 8 B r
joined_room {r = r} {B} (E, O) R S = record { small = λ k h. go k h (ℕ_discrete (k % 2) 0) }
  where
    go : (k : ℕ) → k < 8 → Dec (k % 2 ≡ 0) → Small B (item r k)
    go k h (yes q) =
        let i : 2 * (k / 2) ≡ k = omega arith in
        rw i at (rw (E.at (k / 2) (omega arith)) at (R.small (k / 2) (omega arith)))
    go k h (no q) =
        let i : 2 * (k / 2) + 1 ≡ k = omega arith in
        rw i at (rw (O.at (k / 2) (omega arith)) at (S.small (k / 2) (omega arith)))

-- eight rows
pub rows_8 : {f : ℕ → ℕ → List ℤ} {a b c d e g h i : List Element} → Row 8 (f 0) a → Row 8 (f 1) b → Row 8 (f 2) c → Row 8 (f 3) d → Row 8 (f 4) e
    → Row 8 (f 5) g → Row 8 (f 6) h → Row 8 (f 7) i → Rows f (a ∷ b ∷ c ∷ d ∷ e ∷ g ∷ h ∷ i ∷ [])
rows_8 {f} p q r s t u v w = record { at = listed_8 [] (λ k x. Row 8 (f k) x) p q r s t u v w }

-- a row of elements that are known is as small as these
pub row_room : {m B : ℕ} {f : ℕ → List ℤ} {l : List Element} → Row m f l → ((i : ℕ) → i < m → Small B (f i)) → Room m B l
row_room R s = record { small = λ i h. rw (R.at i h) (s i h) }

pub room_le : {m A B : ℕ} {l : List Element} → A ≤ B → Room m A l → Room m B l
room_le h R = record { small = λ i b. small_le h (R.small i b) }
