-- The orientations of a block (02, request 1): of its samples, in 02's words; of its elements, by place and sign; and one after another.
use Rattle.std.specs.Prelude.{◌&&◌, ◌∷◌, ◌++◌, ◌+◌, ◌-◌, ◌*◌, ◌/◌, ◌%◌, ◌*ℤ◌}
use Rattle.integers.specs.Kit.{Bool, cond, List, [], ℕ, eqb, ltb, ℤ, pos, get_or}
use Rattle.integers.specs.Table.{table}
use Rattle.integers.specs.Test.{every, eq_z}
use Rattle.limits.specs.Limits.{places, components_size}
use Rattle.ring.specs.Element.{component, scale}
use Rattle.dct.specs.Transform.{mirror_sign}
use Rattle.elements.specs.Buffer.{element_at}
use Rattle.blocks.specs.Blocks.{sample}

-- they are 0 to 7
abbrev pub orientations : ℕ
orientations = 8

-- samples, or whatever else stands in rows and columns: x i j is in row i and column j

module _ {A : Type 0} where
  -- "1 mirrors left and right"
  abbrev left_right : (ℕ → ℕ → A) → ℕ → ℕ → A
  left_right x i j = x i (7 - j)

  -- "2 top and bottom"
  abbrev top_bottom : (ℕ → ℕ → A) → ℕ → ℕ → A
  top_bottom x i j = x (7 - i) j

  -- rows swapped with columns
  abbrev swapped : (ℕ → ℕ → A) → ℕ → ℕ → A
  swapped x i j = x j i

  -- "0 changes nothing, 1 mirrors left and right, 2 top and bottom, 3 both"
  abbrev mirrorings : (ℕ → ℕ → A) → List (ℕ → ℕ → A)
  mirrorings x = x ∷ left_right x ∷ top_bottom x ∷ left_right (top_bottom x) ∷ []

  -- "4 to 7 first swap rows with columns, then do as 0 to 3"
  unfoldable pub reoriented : ℕ → (ℕ → ℕ → A) → ℕ → ℕ → A
  reoriented o x = get_or (mirrorings x ++ mirrorings (swapped x)) o x

-- a block in a buffer

-- its sample in row i and column j
abbrev pub sample_at : List ℤ → ℕ → ℕ → ℤ
sample_at x i j = sample x (8 * i + j)

unfoldable pub reoriented_block : ℕ → List ℤ → List ℤ
reoriented_block o x = table places (λ q. reoriented o (sample_at x) (q / 8) (q % 8))

-- the index of the sample that comes to index q
unfoldable pub sample_source : ℕ → ℕ → ℕ
sample_source o q = reoriented o (λ i j. 8 * i + j) (q / 8) (q % 8)

-- elements: mirroring left and right changes the sign where v is odd, top and bottom where u is odd, and the swap exchanges (u,v) and (v,u)

-- the number of the element that comes to the place p = 8u+v
unfoldable pub source : ℕ → ℕ → ℕ
source o p = cond (ltb o 4) p (8 * (p % 8) + p / 8)

-- the sign with which it comes, 1 or -1
unfoldable pub sign : ℕ → ℕ → ℤ
sign o p = get_or (pos 1 ∷ mirror_sign (p % 8) ∷ mirror_sign (p / 8) ∷ (mirror_sign (p % 8) *ℤ mirror_sign (p / 8)) ∷ []) (o % 4) (pos 1)

-- "the same elements change place and sign"
abbrev pub reoriented_element : ℕ → List ℤ → ℕ → List ℤ
reoriented_element o e p = scale (sign o p) (element_at e (source o p))

-- all of them, as they stand in a buffer
unfoldable pub reoriented_elements : ℕ → List ℤ → List ℤ
reoriented_elements o e = table components_size (λ i. component (reoriented_element o e (i / 8)) (i % 8))

-- one after another: the first chooses the row, the second the column. `composition` shows that each entry obeys its rule.
abbrev compositions : List (List ℕ)
compositions =
    (0 ∷ 1 ∷ 2 ∷ 3 ∷ 4 ∷ 5 ∷ 6 ∷ 7 ∷ [])
    ∷ (1 ∷ 0 ∷ 3 ∷ 2 ∷ 6 ∷ 7 ∷ 4 ∷ 5 ∷ [])
    ∷ (2 ∷ 3 ∷ 0 ∷ 1 ∷ 5 ∷ 4 ∷ 7 ∷ 6 ∷ [])
    ∷ (3 ∷ 2 ∷ 1 ∷ 0 ∷ 7 ∷ 6 ∷ 5 ∷ 4 ∷ [])
    ∷ (4 ∷ 5 ∷ 6 ∷ 7 ∷ 0 ∷ 1 ∷ 2 ∷ 3 ∷ [])
    ∷ (5 ∷ 4 ∷ 7 ∷ 6 ∷ 2 ∷ 3 ∷ 0 ∷ 1 ∷ [])
    ∷ (6 ∷ 7 ∷ 4 ∷ 5 ∷ 1 ∷ 0 ∷ 3 ∷ 2 ∷ [])
    ∷ (7 ∷ 6 ∷ 5 ∷ 4 ∷ 3 ∷ 2 ∷ 1 ∷ 0 ∷ [])
    ∷ []

-- "the turn that an 8 by 8 table names"
unfoldable pub composed : ℕ → ℕ → ℕ
composed first second = get_or (get_or compositions first []) second 0

-- the rule of the table: of the places of samples, of the places of elements and of their signs

abbrev pub samples_at : ℕ → ℕ → ℕ → Bool
samples_at a b q = eqb (sample_source a (sample_source b q)) (sample_source (composed a b) q)

abbrev pub sources_at : ℕ → ℕ → ℕ → Bool
sources_at a b p = eqb (source a (source b p)) (source (composed a b) p)

abbrev pub signs_at : ℕ → ℕ → ℕ → Bool
signs_at a b p = eq_z (sign b p *ℤ sign a (source b p)) (sign (composed a b) p)

abbrev pub rule_at : ℕ → ℕ → ℕ → Bool
rule_at a b p = samples_at a b p && (sources_at a b p && signs_at a b p)

abbrev pub rule : ℕ → ℕ → Bool
rule a b = ltb (composed a b) orientations && every places (rule_at a b)
