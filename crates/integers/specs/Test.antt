-- Tests that definitions use: of all numbers below a bound, of the equality of integers and of lists of them, and of a reciprocal.
use Rattle.std.specs.Prelude.{◌&&◌, ◌∷◌, ◌+◌, ◌*◌}
use Rattle.integers.specs.Kit.{Bool, true, false, List, [], ℕ, zero, suc, eqb, leb, ltb, ℤ, pos, negsuc}

-- the test f passes at each number below n
abbrev pub every : ℕ → (ℕ → Bool) → Bool
every zero f = true
every (suc n) f = f n && every n f

-- at each two, and at each three
abbrev pub every₂ : ℕ → (ℕ → ℕ → Bool) → Bool
every₂ n f = every n (λ i. every n (f i))

abbrev pub every₃ : ℕ → (ℕ → ℕ → ℕ → Bool) → Bool
every₃ n f = every n (λ i. every₂ n (f i))

-- two integers are the same
abbrev pub eq_z : ℤ → ℤ → Bool
eq_z (pos a) (pos b) = eqb a b
eq_z (pos a) (negsuc b) = false
eq_z (negsuc a) (pos b) = false
eq_z (negsuc a) (negsuc b) = eqb a b

-- two lists are the same
abbrev pub eq_list : List ℤ → List ℤ → Bool
eq_list [] [] = true
eq_list [] (y ∷ b) = false
eq_list (x ∷ a) [] = false
eq_list (x ∷ a) (y ∷ b) = eq_z x y && eq_list a b

-- M serves for D/s up to B: M·s is D, or above it by so little that B times as much is less than D
abbrev pub reciprocal : ℕ → ℕ → ℕ → ℕ → Bool
reciprocal B D s M = leb D (M * s) && ltb (B * (M * s)) ((B + 1) * D)
