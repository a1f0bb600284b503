-- The way back of d dimensions (01, "What the library does" and "Why a set or sheet is turned back"), for any buffers.
use Rattle.std.specs.Prelude.{◌≡◌, ◌&&◌, ◌∷◌, ◌+◌, ◌*◌, ◌^◌, ◌<◌}
use Rattle.integers.specs.Kit.{Bool, not, List, [], ℕ, ℤ, pos, length, get_or}
use Rattle.std.specs.Int.Signed.{shr_z}
use Rattle.integers.specs.Range.{outside_at}
use Rattle.integers.specs.Table.{table}
use Rattle.integers.specs.Test.{every, eq_list}
use Rattle.ring.specs.Element.{component}
use Rattle.dct.specs.Inverse.{summed_back}
use Rattle.limits.specs.Limits.{places_in, components_in, lowest_sample, highest_sample, sample_limit, magnitudes_limit_in}
use Rattle.dct.specs.Transform.{element}
use Rattle.elements.specs.Buffer.{element_at}
use Rattle.answers.specs.Answer.{Cause, sized, unless, lowest, accept}
use Rattle.answers.specs.Job.{Job}
use Rattle.blocks.specs.Blocks.{sample, AllInRange, elements_of}
use Rattle.element_sets.specs.Sets.{above_limit}

-- for the theorems: x is a block in range of d dimensions, and the numbers e are its elements, of which that of number p starts at index 8p, component 0
-- first. In two dimensions this is 01's "starts at index 8·(8u+v)", of its double sums (`has_double_sums`, `by_double_sums`).
pub record HasElements (d : ℕ) (x e : List ℤ) : Type 0 where
  pub size : length x ≡ places_in d
  pub range : AllInRange d x
  pub set_size : length e ≡ components_in d
  pub components : (p k : ℕ) → p < places_in d → k < 8 → get_or e (8 * p + k) (pos 0) ≡ component (element d (sample x) p) k

-- the one block that can have the elements e. A block's elements, summed back, are 16^d times its samples (`inverse` of `dct`), so that for a
-- block's set the division is exact. For any other set these are some numbers, of which `is_block_of` says no.
unfoldable pub candidate : ℕ → List ℤ → List ℤ
candidate d e = table (places_in d) (λ r. shr_z (component (summed_back d (element_at e) r) 0) (16 ^ d))

-- the samples x are in range
abbrev pub all_in_range : ℕ → List ℤ → Bool
all_in_range d x = every (places_in d) (λ i. not (outside_at lowest_sample highest_sample x i))

-- x, of 8^d samples, is in range, and its elements are e
abbrev pub is_block_of : ℕ → List ℤ → List ℤ → Bool
is_block_of d e x = all_in_range d x && eq_list (elements_of d x) e

-- causes 1, 4 and 5, in this order, for a buffer of n samples
abbrev pub back_causes : ℕ → List ℤ → ℕ → List Cause
back_causes d elements n =
    sized (length elements) (components_in d)
    ∷ sized n (places_in d)
    ∷ lowest (places_in d) (above_limit (magnitudes_limit_in sample_limit d) elements) 4
    ∷ unless (is_block_of d elements (candidate d elements)) 5
    ∷ []

-- the job leaves the block
abbrev pub back_job : ℕ → List ℤ → List ℤ → Job (List ℤ)
back_job d elements samples =
    record { causes = back_causes d elements (length samples); end = accept; result = candidate d elements; was = samples }
