-- What the way back sums (01, "What the library does"): over all elements of a block of d dimensions, over those of one row, and over the few
-- whole numbers by which a column of a block is known; and, for the theorem that it is an inverse, the Gram matrix of the factors.
use Rattle.std.specs.Prelude.{◌∷◌, ◌+◌, ◌*◌, ◌^◌, ◌+ℤ◌, ◌*ℤ◌}
use Rattle.integers.specs.Kit.{cond, List, [], ℕ, eqb, ℤ, pos, get_or}
use Rattle.integers.specs.Sum.{sum}
use Rattle.ring.specs.Element.{component, add, mul}
use Rattle.ring.specs.Maps.{dot}
use Rattle.dct.specs.Transform.{factor, factors}

-- the sum over all indices p of the factors at place q × the factors at place r: the entries of the factors' Gram matrix
unfoldable pub gram : ℕ → ℕ → ℕ → List ℤ
gram d q r = sum [] add (8 ^ d) (λ p. mul (factors d p q) (factors d p r))

-- the whole numbers that they are (`orthogonal`), 16^d times the Kronecker delta: 16^d where q = r, and 0 otherwise
unfoldable pub delta : ℕ → ℕ → ℕ → ℤ
delta d q r = cond (eqb q r) (pos (16 ^ d)) (pos 0)

-- the sum over all indices p of element e p × its factors at place r
unfoldable pub summed_back : ℕ → (ℕ → List ℤ) → ℕ → List ℤ
summed_back d e r = sum [] add (8 ^ d) (λ p. mul (e p) (factors d p r))

-- the transpose of the 8-point step as a plain sum: the sum over all frequencies k of the row's element k × t(k,n)
unfoldable pub step_back : (ℕ → List ℤ) → ℕ → List ℤ
step_back r n = sum [] add 8 (λ k. mul (r k) (factor k n))

-- half of component 0 of it, which is a sum of components of the row
unfoldable pub integer_back : (ℕ → List ℤ) → ℕ → ℤ
integer_back r n = sum (pos 0) ◌+ℤ◌ 8 (λ k. dot (r k) (factor k n))

-- its terms of the even frequencies, where p is 0, or of the odd ones, where p is 1; r 0 to r 3 are the row's elements there
unfoldable pub half_back : ℕ → (ℕ → List ℤ) → ℕ → ℤ
half_back p r n = sum (pos 0) ◌+ℤ◌ 4 (λ i. dot (r i) (factor (2 * i + p) n))

-- eight components of the frequencies of a column, by which it is known: c_4 of the frequencies 0 and 4, c_2 and c_6 of 2, and c_1, c_3, c_5, c_7
-- of 1. The other frequencies are their conjugates.
abbrev pub known_frequency : ℕ → ℕ
known_frequency k = get_or (0 ∷ 4 ∷ 2 ∷ 2 ∷ 1 ∷ 1 ∷ 1 ∷ 1 ∷ []) k 0

abbrev pub known_component : ℕ → ℕ
known_component k = get_or (4 ∷ 4 ∷ 2 ∷ 6 ∷ 1 ∷ 3 ∷ 5 ∷ 7 ∷ []) k 0

-- known component k of the factor of its frequency at place n
unfoldable pub known_factor : ℕ → ℕ → ℤ
known_factor k n = component (factor (known_frequency k) n) (known_component k)

-- how many conjugates that frequency has, itself among them
abbrev pub conjugate_count : ℕ → ℕ
conjugate_count k = get_or (1 ∷ 1 ∷ 2 ∷ 2 ∷ 4 ∷ 4 ∷ 4 ∷ 4 ∷ []) k 0

-- how often known component k counts for place n: that of the factor, as often as there are conjugates
unfoldable pub weight : ℕ → ℕ → ℤ
weight n k = pos (conjugate_count k) *ℤ known_factor k n

-- the sum of the numbers y 0 to y 7, each as often as it counts for place n
unfoldable pub weighted : (ℕ → ℤ) → ℕ → ℤ
weighted y n = sum (pos 0) ◌+ℤ◌ 8 (λ k. weight n k *ℤ y k)
