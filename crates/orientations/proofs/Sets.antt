-- Accepted sets in another orientation: each element once, sets again accepted, and one orientation after another.
use Rattle.std.specs.Prelude.{◌≡◌, ◌+◌, ◌*◌, ◌/◌, ◌%◌, ◌≤◌, ◌<◌}
use Rattle.integers.specs.Kit.{sym, ap, ◌∙◌, List, ℕ, lit≤, ℤ, pos, length, get_or}
use native.Mathlib.Nat.{one-mul, le_trans}
use native.Mathlib.Omega.{arith}
use Rattle.integers.proofs.Tables.{is_table, length-table, table_ext}
use Rattle.limits.specs.Limits.{places, components_size, magnitudes_limit}
use Rattle.ring.specs.Element.{component, scale, magnitudes, Eight}
use Rattle.ring.proofs.Components.{eight_scale}
use Rattle.ring.proofs.Linear.{scale_one, scale-scale}
use Rattle.ring.proofs.Magnitude.{component_le, magnitudes-scale}
use Rattle.elements.specs.Bound.{Within, headroom}
use Rattle.elements.specs.Buffer.{element_at}
use Rattle.elements.proofs.Buffers.{element_stored, number_at}
use Rattle.element_sets.specs.Sets.{AcceptedSet}
use Rattle.orientations.specs.Orientation.{orientations, source, sign, reoriented_element, reoriented_elements, composed}
use Rattle.orientations.proofs.Places.{source-below, source-twice, sign-one, composed-source, composed-sign}

-- "the same elements": each element of the set comes to one place, and to no other
pub exactly_once : (o q : ℕ) → o < orientations → q < places
    → (p : ℕ) × (p < places) × (source o p ≡ q) × ((r : ℕ) → r < places → source o r ≡ q → r ≡ p)
exactly_once o q h l =
    (source o q, source-below o q h l, source-twice o q h l, λ r m e. sym (source-twice o r h m) ∙ ap (source o) e)

eight_at : (e : List ℤ) (p : ℕ) → Eight (element_at e p)
unfolding element_at
eight_at e p = record { eight = length-table 8 (λ k. get_or e (8 * p + k) (pos 0)) }

-- "change place and sign": element p of the buffer
pub element-reoriented : (o : ℕ) (e : List ℤ) (p : ℕ) → p < places → element_at (reoriented_elements o e) p ≡ reoriented_element o e p
unfolding reoriented_elements
element-reoriented o e p h = element_stored (reoriented_element o e) p h (eight_scale (sign o p) (eight_at e (source o p)))

pub length-reoriented : (o : ℕ) (e : List ℤ) → length (reoriented_elements o e) ≡ components_size
unfolding reoriented_elements
length-reoriented o e = length-table components_size (λ i. component (reoriented_element o e (i / 8)) (i % 8))

-- there is room for the negative of an element
pub room : {e : List ℤ} → AcceptedSet places magnitudes_limit e → (p : ℕ) → p < places → Within headroom (element_at e p)
room {e} S p h = record { within = λ k. le_trans (component_le (element_at e p) k) (le_trans (S.in_limit p h) (lit≤ tt)) }

-- magnitudes stay, and so what is accepted
pub reoriented-set : {L : ℕ} (o : ℕ) (e : List ℤ) → o < orientations → AcceptedSet places L e → AcceptedSet places L (reoriented_elements o e)
reoriented-set {L} o e h S = record { size = length-reoriented o e; in_limit = λ p l. rw (element-reoriented o e p l) (kept p l) }
  where
    kept : (p : ℕ) → p < places → magnitudes (reoriented_element o e p) ≤ L
    kept p l =
        rw (magnitudes-scale (sign o p) (element_at e (source o p)), sign-one o p h l, one-mul)
        (S.in_limit (source o p) (source-below o p h l))

-- "0 changes nothing"
pub unchanged : (e : List ℤ) → length e ≡ components_size → reoriented_elements 0 e ≡ e
unfolding reoriented_elements source sign
unchanged e l = sym (is_table (pos 0) e components_size _ l (λ i h. sym (same i h)))
  where
    same : (i : ℕ) → i < components_size → component (reoriented_element 0 e (i / 8)) (i % 8) ≡ get_or e i (pos 0)
    same i h =
        ap (λ a. component a (i % 8)) (scale_one (element_at e (i / 8))) ∙ number_at e i

-- one orientation after another is the one that the table names
pub one_after_another : (a b : ℕ) (e : List ℤ) → a < orientations → b < orientations
    → reoriented_elements b (reoriented_elements a e) ≡ reoriented_elements (composed a b) e
unfolding reoriented_elements
one_after_another a b e h k = table_ext components_size _ _ (λ i l. ap (λ u. component u (i % 8)) (at (i / 8) (omega arith)))
  where
    at : (p : ℕ) → p < places → reoriented_element b (reoriented_elements a e) p ≡ reoriented_element (composed a b) e p
    at p l =
        ap (scale (sign b p)) (element-reoriented a e (source b p) (source-below b p k l))
        ∙ scale-scale (sign b p) (sign a (source b p)) (element_at e (source a (source b p)))
        ∙ rw (composed-source a b h k p l, composed-sign a b h k p l)
