-- The worked examples that 01 stars ("Films to try"), as changed by 02, and the ends of the range: what the definitions give, and what the papers say, or
-- what follows from their rules.
use Rattle.std.specs.Prelude.{◌≡◌, ◌∷◌, ◌+◌, ◌*◌}
use Rattle.integers.specs.Kit.{Bool, true, cond, List, [], ℕ, eqb, lit<, ℤ, pos, neg_ℤ}
use Rattle.integers.specs.Table.{table}
use Rattle.ring.specs.Element.{add, subtract, integer, only, cosine, mul}
use Rattle.limits.specs.Limits.{places, components_size, halvings}
use Rattle.dct.specs.Transform.{element}
use Rattle.rounding_error.specs.Fraction.{Fraction}
use Rattle.rounding_error.specs.Root.{root, below, above}
use Rattle.rounding_error.specs.Width.{numerator, coefficient}
use Rattle.blocks.specs.Blocks.{sample, elements_of}
use Rattle.coefficients.specs.Tables.{table_numbers}

pub record Example : Type 0 where
  pub given : List ℤ
  pub said : List ℤ

-- c_k
abbrev c : ℕ → List ℤ
c k = cosine (pos k)

-- a number and a truth value, as lists
abbrev alone : ℤ → List ℤ
alone z = z ∷ []

abbrev truth : Bool → List ℤ
truth b = alone (cond b (pos 1) (pos 0))

abbrev thousandths : ℕ → Fraction
thousandths n = record { upper = pos n; lower = 1000; positive = lit< tt }

-- all samples z
abbrev pub all : ℤ → List ℤ
all z = table places (λ i. z)

-- sample (0,0) is 1, the others 0
abbrev one : List ℤ
one = table places (λ i. cond (eqb i 0) (pos 1) (pos 0))

-- u_0 at (0,0) is z, all else 0
abbrev pub at_corner : ℤ → List ℤ
at_corner z = table components_size (λ i. cond (eqb i 0) z (pos 0))

-- the exact element of a block at (u,v)
abbrev at : List ℤ → ℕ → ℕ → List ℤ
at x u v = element 2 (sample x) (8 * u + v)

-- its coefficient at width b
abbrev rounded : ℕ → List ℤ → List ℤ
rounded b u = alone (coefficient halvings b (table_numbers b) u)

-- what the definitions give for an example, and what the papers say
infix 10 ◌is◌
abbrev ◌is◌ : List ℤ → List ℤ → Example
given is said = record { given = given; said = said }

unfoldable pub examples : List Example
examples =
    -- c_4×c_4 = 2; c_7×c_7 = 2-c_2; c_3×c_5 = c_2; c_6×c_7 = c_1-c_3
    (mul (c 4) (c 4) is integer (pos 2))
    ∷ (mul (c 7) (c 7) is subtract (integer (pos 2)) (c 2))
    ∷ (mul (c 3) (c 5) is c 2)
    ∷ (mul (c 6) (c 7) is subtract (c 1) (c 3))
    -- 1414/1000 lies below c_4, 1415/1000 above
    ∷ (truth (below (root 4) (thousandths 1414)) is truth true)
    ∷ (truth (above (root 4) (thousandths 1415)) is truth true)
    -- all samples 1: u_0 at (0,0) is 128, all else 0, coefficient 64
    ∷ (elements_of 2 (all (pos 1)) is at_corner (pos 128))
    ∷ (rounded 11 (at (all (pos 1)) 0 0) is alone (pos 64))
    ∷ (rounded 20 (at (all (pos 1)) 0 0) is alone (pos 64))
    ∷ (rounded 26 (at (all (pos 1)) 0 0) is alone (pos 64))
    -- all -2048: u_0 is -262,144, coefficient -131,072; all 2047: 262,016 and 131,008
    ∷ (elements_of 2 (all (neg_ℤ (pos 2048))) is at_corner (neg_ℤ (pos 262144)))
    ∷ (elements_of 2 (all (pos 2047)) is at_corner (pos 262016))
    ∷ (rounded 11 (at (all (neg_ℤ (pos 2048))) 0 0) is alone (neg_ℤ (pos 131072)))
    ∷ (rounded 20 (at (all (neg_ℤ (pos 2048))) 0 0) is alone (neg_ℤ (pos 131072)))
    ∷ (rounded 26 (at (all (neg_ℤ (pos 2048))) 0 0) is alone (neg_ℤ (pos 131072)))
    ∷ (rounded 11 (at (all (pos 2047)) 0 0) is alone (pos 131008))
    ∷ (rounded 20 (at (all (pos 2047)) 0 0) is alone (pos 131008))
    ∷ (rounded 26 (at (all (pos 2047)) 0 0) is alone (pos 131008))
    -- the ends of the range (02, request 6), all -32,768: u_0 is -4,194,304, coefficient -2,097,152; all 32,767: 4,194,176 and 2,097,088
    ∷ (elements_of 2 (all (neg_ℤ (pos 32768))) is at_corner (neg_ℤ (pos 4194304)))
    ∷ (elements_of 2 (all (pos 32767)) is at_corner (pos 4194176))
    ∷ (rounded 11 (at (all (neg_ℤ (pos 32768))) 0 0) is alone (neg_ℤ (pos 2097152)))
    ∷ (rounded 20 (at (all (neg_ℤ (pos 32768))) 0 0) is alone (neg_ℤ (pos 2097152)))
    ∷ (rounded 26 (at (all (neg_ℤ (pos 32768))) 0 0) is alone (neg_ℤ (pos 2097152)))
    ∷ (rounded 11 (at (all (pos 32767)) 0 0) is alone (pos 2097088))
    ∷ (rounded 20 (at (all (pos 32767)) 0 0) is alone (pos 2097088))
    ∷ (rounded 26 (at (all (pos 32767)) 0 0) is alone (pos 2097088))
    -- sample (0,0) = 1, others 0: (0,0) is 2; (0,1) is c_3+c_5; (1,1) is 2+c_2; (1,7) is c_6
    ∷ (at one 0 0 is integer (pos 2))
    ∷ (at one 0 1 is add (c 3) (c 5))
    ∷ (at one 1 1 is add (integer (pos 2)) (c 2))
    ∷ (at one 1 7 is c 6)
    -- at b = 11 the coefficients at (0,1), (1,1), (7,7) are 1, 2, 0
    ∷ (rounded 11 (at one 0 1) is alone (pos 1))
    ∷ (rounded 11 (at one 1 1) is alone (pos 2))
    ∷ (rounded 11 (at one 7 7) is alone (pos 0))
    -- an element of u_2 = 256 alone, b = 11: N = 968,704, coefficient 237; with -256: -237 (02, request 3)
    ∷ (alone (numerator 11 (table_numbers 11) (only (pos 256) 2)) is alone (pos 968704))
    ∷ (rounded 11 (only (pos 256) 2) is alone (pos 237))
    ∷ (rounded 11 (only (neg_ℤ (pos 256)) 2) is alone (neg_ℤ (pos 237)))
    ∷ []

-- each gives what is said
abbrev pub Hold : List Example → Type 0
Hold [] = Unit
Hold (f ∷ l) = (f.given ≡ f.said) × Hold l
