-- The test of cause 4 as the code makes it, and that the accepted sets are those in which it finds no element; a block's is one.
use Rattle.std.specs.Prelude.{◌≡◌, ◌*◌, ◌≤◌, ◌<◌}
use Rattle.integers.specs.Kit.{refl, true, false, List, ℕ, suc, ℤ, length}
use native.Mathlib.Nat.{le_trans}
use borrow.Author.Tests.{lt-ltb, le-ltb, ltb-false}
use Rattle.limits.specs.Limits.{places_in, sample_limit, magnitudes_limit_in}
use Rattle.ring.specs.Element.{magnitudes}
use Rattle.dct.specs.Transform.{factor}
use Rattle.elements.specs.Buffer.{element_at}
use Rattle.blocks.specs.Blocks.{AllInRange, elements_of}
use Rattle.element_sets.specs.Sets.{above_limit, AcceptedSet}
use Rattle.blocks.proofs.Blocks.{length_elements, magnitudes_of}

-- r is the sum that the code finds
module _ (L : ℕ) (e : List ℤ) (p : ℕ) {r : ℕ} (f : r ≡ magnitudes (element_at e p)) where
  pub above_yes : L < r → above_limit L e p ≡ true
  above_yes h = rw (← f) (lt-ltb L r h)

  pub above_no : r ≤ L → above_limit L e p ≡ false
  above_no h = rw (← f) (le-ltb L r h)

pub none_above : {n L : ℕ} {e : List ℤ} → AcceptedSet n L e → (p : ℕ) → p < n → above_limit L e p ≡ false
none_above {n} {L} {e} A p h = above_no L e p refl (A.in_limit p h)

-- and a set in which none is above is accepted
pub passed : {n L : ℕ} {e : List ℤ} → length e ≡ 8 * n → ((p : ℕ) → p < n → above_limit L e p ≡ false) → AcceptedSet n L e
passed {n} {L} l none = record { size = l; in_limit = λ p h. ltb-false L _ (none p h) }

-- a set within a limit is within a larger one
pub wider : {n L M : ℕ} {e : List ℤ} → L ≤ M → AcceptedSet n L e → AcceptedSet n M e
wider l A = record { size = A.size; in_limit = λ p h. le_trans (A.in_limit p h) l }

-- a block's set, "the 64 elements that forward writes for a block in range", is an accepted set
pub block-set : (d : ℕ) (x : List ℤ) → AllInRange (suc d) x → AcceptedSet (places_in (suc d)) (magnitudes_limit_in sample_limit (suc d)) (elements_of (suc d) x)
block-set d x range = record { size = length_elements factor (suc d) x; in_limit = magnitudes_of d x range }
