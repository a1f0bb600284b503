-- Accepted sets (01, "Rounding at a width"): n elements in a buffer, none of whose magnitudes sum above the limit L.
use Rattle.std.specs.Prelude.{◌≡◌, ◌*◌, ◌≤◌, ◌<◌}
use Rattle.integers.specs.Kit.{Bool, List, ℕ, ltb, ℤ, length}
use Rattle.ring.specs.Element.{magnitudes}
use Rattle.elements.specs.Buffer.{element_at}

-- cause 4 at the element of number p: its magnitudes sum above the limit
abbrev pub above_limit : ℕ → List ℤ → ℕ → Bool
above_limit L e p = ltb L (magnitudes (element_at e p))

-- "An accepted set is 512 numbers in which no element's magnitudes sum above what number 4 below allows"
pub record AcceptedSet (n L : ℕ) (e : List ℤ) : Type 0 where
  pub size : length e ≡ 8 * n
  pub in_limit : (p : ℕ) → p < n → magnitudes (element_at e p) ≤ L
