-- The exact cosine transform (01, "Elements"), for blocks of any number of dimensions.
-- A block of d dimensions has 8^d samples, x 0 to x (8^d - 1). The base-8 digits of a sample's index are its places along the
-- dimensions, those of an element's index its frequencies: in two dimensions sample (i,j), row i and column j, is x (8i+j), and the
-- element at (u,v), u counting down and v across, has the index 8u+v.
use Rattle.std.specs.Prelude.{◌&&◌, ◌||◌, ◌∷◌, ◌+◌, ◌*◌, ◌/◌, ◌%◌, ◌^◌, ◌≤◌, ◌<◌}
use Rattle.integers.specs.Kit.{Bool, false, cond, List, [], ℕ, zero, suc, eqb, ℤ, pos, neg_ℤ, nat_abs, get_or}
use Rattle.integers.specs.Sum.{sum}
use Rattle.ring.specs.Element.{add, scale, integer, cosine, mul}

-- the index of the cosine that 01's factor t(k,n) is: 4 where k = 0, and (2n+1)·k otherwise
abbrev pub angle : ℕ → ℕ → ℕ
angle zero n = 4
angle (suc k) n = (2 * n + 1) * suc k

-- t(k,n), for frequency k and sample place n
unfoldable pub factor : ℕ → ℕ → List ℤ
factor k n = cosine (pos (angle k n))

-- an odd frequency
abbrev odd : ℕ → Bool
odd k = eqb (k % 2) 1

-- t(k,7-n) is t(k,n) for even k, and its negative for odd k (`mirrored`): the sign of frequency k in a mirrored row
abbrev pub mirror_sign : ℕ → ℤ
mirror_sign k = cond (odd k) (neg_ℤ (pos 1)) (pos 1)

-- by any family f of factors, f(k,n) for frequency k and place n

-- the product of the factors along d dimensions, of the frequencies in p and the places in q
unfoldable pub factors_by : (ℕ → ℕ → List ℤ) → ℕ → ℕ → ℕ → List ℤ
factors_by f zero p q = integer (pos 1)
factors_by f (suc d) p q = mul (factors_by f d (p / 8) (q / 8)) (f (p % 8) (q % 8))

-- the exact element of the block x at index p: the sum over all samples of sample × factors
unfoldable pub element_by : (ℕ → ℕ → List ℤ) → ℕ → (ℕ → ℤ) → ℕ → List ℤ
element_by f d x p = sum [] add (8 ^ d) (λ q. scale (x q) (factors_by f d p q))

-- two dimensions as a double sum: over all i, j of x(i,j) × f(u,i) × f(v,j)
unfoldable pub double_sum_by : (ℕ → ℕ → List ℤ) → (ℕ → ℕ → ℤ) → ℕ → ℕ → List ℤ
double_sum_by f x u v = sum [] add 8 (λ i. sum [] add 8 (λ j. scale (x i j) (mul (f u i) (f v j))))

-- the 8-point step as a plain sum: the element of frequency k that the elements r 0 to r 7 of one row give
unfoldable pub step_by : (ℕ → ℕ → List ℤ) → (ℕ → List ℤ) → ℕ → List ℤ
step_by f r k = sum [] add 8 (λ n. mul (r n) (f k n))

-- by t

abbrev pub factors : ℕ → ℕ → ℕ → List ℤ
factors = factors_by factor

abbrev pub element : ℕ → (ℕ → ℤ) → ℕ → List ℤ
element = element_by factor

-- 01's own words for two dimensions: the element at (u,v) is the sum over all i, j of x(i,j) × t(u,i) × t(v,j)
abbrev pub double_sum : (ℕ → ℕ → ℤ) → ℕ → ℕ → List ℤ
double_sum = double_sum_by factor

abbrev pub step : (ℕ → List ℤ) → ℕ → List ℤ
step = step_by factor

-- the first four terms of a step. A factorised step applies it to the sums r_n + r_(7-n), for even k, and to the differences, for odd k
unfoldable pub half_step : (ℕ → List ℤ) → ℕ → List ℤ
half_step r k = sum [] add 4 (λ n. mul (r n) (factor k n))

-- no sample of the block x of d dimensions has a magnitude above S
abbrev pub Bounded : ℕ → ℕ → (ℕ → ℤ) → Type 0
Bounded d S x = (q : ℕ) → q < 8 ^ d → nat_abs (x q) ≤ S

-- which components of the element at (u,v) may be non-zero (01, "Consequences to be shown")

-- 2 or 6; the other even frequencies are 0 and 4
abbrev two_or_six : ℕ → Bool
two_or_six k = eqb (k % 4) 2

-- the indices of those components, rising
unfoldable pub components_at : ℕ → ℕ → List ℕ
components_at u v =
    cond (odd u && odd v) (0 ∷ 2 ∷ 4 ∷ 6 ∷ [])
    (cond (odd u || odd v) (1 ∷ 3 ∷ 5 ∷ 7 ∷ [])
    (cond (two_or_six u && two_or_six v) (0 ∷ 4 ∷ [])
    (cond (two_or_six u || two_or_six v) (2 ∷ 6 ∷ [])
    (0 ∷ []))))

-- index i of these; past the last it is 8, and component 8, which an element does not have, reads as 0
abbrev pub component_index : ℕ → ℕ → ℕ → ℕ
component_index u v i = get_or (components_at u v) i 8

-- k stands in the list
abbrev pub among : List ℕ → ℕ → Bool
among [] k = false
among (a ∷ l) k = eqb a k || among l k
