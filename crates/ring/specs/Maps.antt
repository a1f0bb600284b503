-- Linear maps, and those of elements that the transforms rest on: component k as an element, conjugation, and the dot product of the components.
use Rattle.std.specs.Prelude.{◌≡◌, ◌∷◌, ◌*◌, ◌+ℤ◌, ◌*ℤ◌}
use Rattle.integers.specs.Kit.{List, [], ℕ, zero, suc, ℤ, pos}
use Rattle.ring.specs.Element.{component, add, scale, integer, cosine, combine}

-- a map into elements or into whole numbers, of which `none` is 0, is linear
pub record Linear {B : Type 0} (none : B) (plus : B → B → B) (times : ℤ → B → B) (L : List ℤ → B) : Type 0 where
  pub nil : L [] ≡ none
  pub sums : (a b : List ℤ) → L (add a b) ≡ plus (L a) (L b)
  pub multiples : (s : ℤ) (a : List ℤ) → L (scale s a) ≡ times s (L a)

abbrev pub LinearMap : (List ℤ → List ℤ) → Type 0
LinearMap L = Linear [] add scale L

abbrev pub LinearForm : (List ℤ → ℤ) → Type 0
LinearForm φ = Linear (pos 0) ◌+ℤ◌ ◌*ℤ◌ φ

-- the whole number that component k is, as an element
abbrev pub part : List ℤ → ℕ → List ℤ
part a k = integer (component a k)

-- 1, and c_5k in place of c_k
abbrev pub fivefold : ℕ → List ℤ
fivefold zero = integer (pos 1)
fivefold (suc k) = cosine (pos (5 * suc k))

-- the conjugate of an element: the automorphism of the ring that takes c_k to c_5k (`Conjugates`)
unfoldable pub conjugate : List ℤ → List ℤ
conjugate a = combine fivefold a

-- four of it, one after another
abbrev pub four_conjugates : List ℤ → List ℤ
four_conjugates a = conjugate (conjugate (conjugate (conjugate a)))

-- the dot product of the components: a_0·b_0 + a_1·b_1 + ... + a_7·b_7
abbrev pub dot : List ℤ → List ℤ → ℤ
dot [] b = pos 0
dot (x ∷ a) [] = pos 0
dot (x ∷ a) (y ∷ b) = (x *ℤ y) +ℤ dot a b
