-- A block's elements, as they stand in a buffer: how large they are, and those of a block with all samples negated.
use Rattle.std.specs.Prelude.{◌≡◌, ◌+◌, ◌-◌, ◌*◌, ◌/◌, ◌%◌, ◌≤◌, ◌<◌, ◌*ℤ◌}
use Rattle.integers.specs.Kit.{sym, ap, ◌∙◌, List, ℕ, suc, lit<, ℤ, pos, negsuc, neg_ℤ, length, get_or}
use native.Mathlib.Omega.{arith}
use Rattle.integers.proofs.Integer.{minus-one-*ℤ}
use Rattle.integers.proofs.Ranges.{inside_small}
use Rattle.integers.proofs.Tables.{get_d_table, length-table}
use Rattle.limits.specs.Limits.{places_in, components_in, sample_limit, magnitudes_limit_in}
use Rattle.ring.specs.Element.{component, integer, negate, magnitudes, Eight}
use Rattle.ring.proofs.Components.{eight_only, component-negate, negate-table}
use Rattle.dct.specs.Transform.{factor, element, element_by, Bounded}
use Rattle.dct.proofs.Factors.{eight_factor, eight_element, eight_step, element-multiple}
use Rattle.dct.proofs.Bound.{bound}
use Rattle.dct.proofs.First.{first-element}
use Rattle.elements.specs.Buffer.{element_at}
use Rattle.elements.proofs.Buffers.{element_stored}
use Rattle.blocks.specs.Blocks.{sample, block_sum, AllInRange, elements_by, elements_of, frequencies}

-- by any family of factors
module _ (f : ℕ → ℕ → List ℤ) (d : ℕ) (x : List ℤ) where
  pub length_elements : length (elements_by f d x) ≡ components_in d
  unfolding elements_by
  length_elements = length-table (components_in d) (λ i. component (element_by f d (sample x) (i / 8)) (i % 8))

  -- component k of element p stands at index 8p + k
  pub component_of : (p k : ℕ) → p < places_in d → k < 8 → get_or (elements_by f d x) (8 * p + k) (pos 0) ≡ component (element_by f d (sample x) p) k
  unfolding elements_by
  component_of p k h l =
      let q : (8 * p + k) / 8 ≡ p = omega arith in
      let r : (8 * p + k) % 8 ≡ k = omega arith in
      get_d_table (components_in d) (λ i. component (element_by f d (sample x) (i / 8)) (i % 8)) (pos 0) (8 * p + k) (omega arith) ∙ rw (q, r)

-- element p of the buffer is the block's
pub element_of : {f : ℕ → ℕ → List ℤ} → ((k n : ℕ) → Eight (f k n)) → (d : ℕ) (x : List ℤ) (p : ℕ) → p < places_in d
    → element_at (elements_by f d x) p ≡ element_by f d (sample x) p
unfolding elements_by
element_of {f} eights d x p h = element_stored (element_by f d (sample x)) p h (eight_element eights d (sample x) p)

-- the first element of a block is twice the sum of its samples
pub first-component : (x : List ℤ) (k : ℕ) → component (element_at (elements_of 2 x) 0) k ≡ block_sum x *ℤ component (integer (pos 2)) k
first-component x k = ap (λ u. component u k) (element_of eight_factor 2 x 0 (lit< tt)) ∙ first-element (sample x) k

-- the samples of a column
abbrev pub column : List ℤ → ℕ → ℕ → ℤ
column x j i = sample x (8 * i + j)

pub eight_frequencies : (x : List ℤ) (j u : ℕ) → Eight (frequencies x j u)
eight_frequencies x j u = eight_step eight_factor (λ i. integer (column x j i)) (λ i h. eight_only (column x j i) 0) u

pub samples_small : {d : ℕ} {x : List ℤ} → AllInRange d x → Bounded d sample_limit (sample x)
samples_small {d} {x} range q h = inside_small (sample_limit - 1) (sample x q) (range.at q h)

-- "the magnitudes of an element's eight components sum to at most" the limit
pub magnitudes_of : (d : ℕ) (x : List ℤ) → AllInRange (suc d) x → (p : ℕ) → p < places_in (suc d)
    → magnitudes (element_at (elements_of (suc d) x) p) ≤ magnitudes_limit_in sample_limit (suc d)
magnitudes_of d x range p h =
    let less : suc d - 1 ≡ d = omega arith in
    rw (element_of eight_factor (suc d) x p h, less) (bound d sample_limit (sample x) (samples_small range) p)

-- the elements of a block with all samples negated
pub elements_negated : (d : ℕ) (x y : List ℤ) → ((q : ℕ) → q < places_in d → sample y q ≡ neg_ℤ (sample x q)) → elements_of d y ≡ negate (elements_of d x)
unfolding elements_by
elements_negated d x y opposite =
    negate-table (components_in d) _ _ (λ i h.
    ap (λ u. component u (i % 8))
    (element-multiple factor d (negsuc 0) (sample x) (sample y) (λ q l. opposite q l ∙ sym (minus-one-*ℤ (sample x q))) (i / 8))
    ∙ component-negate (element d (sample x) (i / 8)) (i % 8))
