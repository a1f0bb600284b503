-- Elements: whole-number combinations of 1 and c_1 to c_7, with c_k = 2·cos(k·π/16) (01, "Elements").
-- An element is the list of its eight components, u_0 first, and means u_0 + u_1·c_1 + ... + u_7·c_7. Two elements, of eight
-- components each, are the same when all their components are. The operations take lists of any length, and read a missing component as 0; `[]` is the 0
-- from which sums start. 1 and c_1 to c_7 are the basis elements: component k of an element is the coefficient of the k-th.
use Rattle.std.specs.Prelude.{◌≡◌, ◌&&◌, ◌∷◌, ◌+◌, ◌-◌, ◌%◌, ◌+ℤ◌, ◌-ℤ◌, ◌*ℤ◌}
use Rattle.integers.specs.Kit.{cond, List, [], ℕ, zero, suc, leb, ltb, eqb, ℤ, pos, neg_ℤ, nat_abs, length, get_or}
use Rattle.integers.specs.Table.{table}

-- an element has all of its components; a record, so that it can be inferred
pub record Eight (a : List ℤ) : Type 0 where
  pub eight : length a ≡ 8

-- sums and multiples

-- component k, 01's u_k
abbrev pub component : List ℤ → ℕ → ℤ
component a k = get_or a k (pos 0)

-- the sum, component by component
abbrev pub add : List ℤ → List ℤ → List ℤ
add [] b = b
add (x ∷ a) [] = x ∷ a
add (x ∷ a) (y ∷ b) = (x +ℤ y) ∷ add a b

-- the whole number s times an element
abbrev pub scale : ℤ → List ℤ → List ℤ
scale s [] = []
scale s (x ∷ a) = (s *ℤ x) ∷ scale s a

-- -a
abbrev pub negate : List ℤ → List ℤ
negate a = scale (neg_ℤ (pos 1)) a

-- a - b
abbrev pub subtract : List ℤ → List ℤ → List ℤ
subtract a b = add a (negate b)

-- the element with s at component k and 0 at the other seven; with k above 7, all eight are 0
abbrev pub only : ℤ → ℕ → List ℤ
only s k = table 8 (λ i. cond (eqb i k) s (pos 0))

-- the whole number s as an element
abbrev pub integer : ℤ → List ℤ
integer s = only s 0

-- c_m for every whole m, by 01's rules

-- m from 0 to 8: c_0 = 2, c_1 to c_7 are basis elements, c_8 = 0
abbrev pub quarter_turn : ℕ → List ℤ
quarter_turn zero = integer (pos 2)
quarter_turn (suc k) = only (pos 1) (suc k)

-- m from 0 to 16: past 8, c_m = -c_(16-m)
abbrev pub half_turn : ℕ → List ℤ
half_turn m = cond (leb m 8) (quarter_turn m) (negate (quarter_turn (16 - m)))

-- m from 0 to 31: past 16, c_m = c_(-m) = c_(32-m)
abbrev pub full_turn : ℕ → List ℤ
full_turn m = cond (leb m 16) (half_turn m) (half_turn (32 - m))

-- c_m for every whole m: c_(-m) = c_m and c_(32+m) = c_m
unfoldable pub cosine : ℤ → List ℤ
cosine m = full_turn (nat_abs m % 32)

-- the product

-- the product of the basis elements i and j: 1 × c_j = c_j, c_i × c_j = c_(i+j) + c_(i-j)
abbrev pub by_rule : ℕ → ℕ → List ℤ
by_rule zero zero = integer (pos 1)
by_rule zero (suc j) = cosine (pos (suc j))
by_rule (suc i) zero = cosine (pos (suc i))
by_rule (suc i) (suc j) = add (cosine (pos (suc i) +ℤ pos (suc j))) (cosine (pos (suc i) -ℤ pos (suc j)))

-- the same for any i and j, with nothing for a component past 7, which an element does not have
unfoldable pub basis_product : ℕ → ℕ → List ℤ
basis_product i j = cond (ltb i 8 && ltb j 8) (by_rule i j) []

-- the combination of the elements f 0, f 1, ... by the components of a: a_0·f(0) + a_1·f(1) + ...
abbrev pub combine : (ℕ → List ℤ) → List ℤ → List ℤ
combine f [] = []
combine f (x ∷ a) = add (scale x (f zero)) (combine (λ k. f (suc k)) a)

-- a × b, every component of a with every component of b
unfoldable pub mul : List ℤ → List ℤ → List ℤ
mul a b = combine (λ i. combine (basis_product i) b) a

-- size

-- the sum of the magnitudes of an element's components, which 01 limits
abbrev pub magnitudes : List ℤ → ℕ
magnitudes [] = 0
magnitudes (x ∷ a) = nat_abs x + magnitudes a
