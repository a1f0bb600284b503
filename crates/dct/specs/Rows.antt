-- How the rows of elements that a pass takes and makes hang together: their parts, and their conjugates.
use Rattle.std.specs.Prelude.{◌∷◌, ◌+◌, ◌*◌, ◌/◌, ◌%◌, ◌*ℤ◌}
use Rattle.integers.specs.Kit.{Bool, List, [], ℕ, zero, suc, ℤ, pos, neg_ℤ, get_or}
use Rattle.integers.specs.Sum.{sum}
use Rattle.integers.specs.Test.{every, eq_list}
use Rattle.ring.specs.Element.{component, add, scale, only}
use Rattle.ring.specs.Maps.{conjugate}

-- the number that component k counts: 1 for component 0, and c_k for the others
abbrev pub unit : ℕ → List ℤ
unit k = only (pos 1) k

-- what is left of an element where only its components k 0 to k (m - 1) count
unfoldable pub restricted : ℕ → (ℕ → ℕ) → List ℤ → List ℤ
restricted m k a = sum [] add m (λ i. scale (component a (k i)) (unit (k i)))

-- whether the factors of frequency u have these components alone
abbrev pub spans : (ℕ → ℕ → List ℤ) → (ℕ → ℕ) → ℕ → ℕ → Bool
spans f k m u = every 8 (λ n. eq_list (restricted m k (f u n)) (f u n))

-- the components of the frequencies 0 and 4 of whole numbers, which are c_4 alone, of 2 and 6, and of the odd ones
abbrev pub fours : ℕ → ℕ
fours i = 4

abbrev pub twos : ℕ → ℕ
twos i = 4 * i + 2

abbrev pub odds : ℕ → ℕ
odds i = 2 * i + 1

-- conjugation takes t(k,n) to t(5k,n), and so the cosines of one frequency to those of another, up to their sign: those of frequency k are
-- `conjugate_sign k` times the conjugates of those of frequency `conjugate_of k`
abbrev pub conjugate_of : ℕ → ℕ
conjugate_of k = get_or (0 ∷ 3 ∷ 6 ∷ 7 ∷ 4 ∷ 1 ∷ 2 ∷ 5 ∷ []) k 0

abbrev pub conjugate_sign : ℕ → ℤ
conjugate_sign k = get_or (neg_ℤ (pos 1) ∷ neg_ℤ (pos 1) ∷ pos 1 ∷ pos 1 ∷ neg_ℤ (pos 1) ∷ pos 1 ∷ neg_ℤ (pos 1) ∷ pos 1 ∷ []) k (pos 1)

-- the conjugates of a row of frequencies, each at its place and with its sign
unfoldable pub conjugate_row : (ℕ → List ℤ) → ℕ → List ℤ
conjugate_row r k = scale (conjugate_sign k) (conjugate (r (conjugate_of k)))

-- in d dimensions: the frequencies of index p, each moved so, and the product of their signs
unfoldable pub conjugates_of : ℕ → ℕ → ℕ
conjugates_of zero p = 0
conjugates_of (suc d) p = conjugates_of d (p / 8) * 8 + conjugate_of (p % 8)

unfoldable pub conjugate_signs : ℕ → ℕ → ℤ
conjugate_signs zero p = pos 1
conjugate_signs (suc d) p = conjugate_signs d (p / 8) *ℤ conjugate_sign (p % 8)
