-- What an accepted call of forward leaves, in 01's words: of a block's set first, and then of the buffer after the call.
use Rattle.std.specs.Prelude.{◌≡◌, ◌+◌, ◌*◌, ◌≤◌, ◌<◌}
use Rattle.integers.specs.Kit.{ap, ◌∙◌, false, List, ℕ, ℤ, pos, get_or}
use native.Mathlib.Omega.{arith}
use Rattle.limits.specs.Limits.{places, magnitudes_limit}
use Rattle.ring.specs.Element.{component, scale, magnitudes}
use Rattle.dct.specs.T81.{sixty_four_S}
use Rattle.dct.specs.Transform.{factor, double_sum, components_at, among}
use Rattle.dct.proofs.Factors.{eight_factor}
use Rattle.dct.proofs.Dimensions.{element-double_sum, sixteen_times_dct}
use Rattle.dct.proofs.Classes.{zero_component}
use Rattle.answers.specs.Job.{job_left, Accepts}
use Rattle.answers.proofs.Jobs.{accepted_leaves}
use Rattle.elements.specs.Buffer.{element_at}
use Rattle.blocks.specs.Blocks.{sample, elements_of}
use Rattle.blocks.proofs.Blocks as blocks
use Rattle.forward.specs.Forward.{forward_job}
use Rattle.forward.proofs.Acceptance.{forward-set}

-- "The exact element at (u,v) ... is the sum over all i, j of x(i,j) × t(u,i) × t(v,j). It starts at index 8·(8u+v), component 0 first"
pub component_of : (x : List ℤ) (u v k : ℕ) → u < 8 → v < 8 → k < 8
    → get_or (elements_of 2 x) (8 * (8 * u + v) + k) (pos 0) ≡ component (double_sum (λ i j. sample x (8 * i + j)) u v) k
component_of x u v k h l m = blocks.component_of factor 2 x (8 * u + v) k (omega arith) m ∙ ap (λ a. component a k) (element-double_sum eight_factor (sample x) u v h l)

-- the buffer after an accepted call

module _ (x e : List ℤ) (accepts : Accepts (forward_job 2 x e)) where
  pub component-place : (u v k : ℕ) → u < 8 → v < 8 → k < 8
      → get_or (job_left (forward_job 2 x e)) (8 * (8 * u + v) + k) (pos 0) ≡ component (double_sum (λ i j. sample x (8 * i + j)) u v) k
  component-place u v k h l m = rw (accepted_leaves (forward_job 2 x e) accepts) (component_of x u v k h l m)

  -- "It is sixteen times the DCT value": four times the element that starts at index 8·(8u+v) is 64 times T.81's S(u,v)
  pub dct_place : (u v : ℕ) → u < 8 → v < 8 → scale (pos 4) (element_at (job_left (forward_job 2 x e)) (8 * u + v)) ≡ sixty_four_S (λ i j. sample x (8 * i + j)) u v
  dct_place u v h l =
      rw (accepted_leaves (forward_job 2 x e) accepts, blocks.element_of eight_factor 2 x (8 * u + v) (omega arith), element-double_sum eight_factor (sample x) u v h l)
      (sixteen_times_dct (λ i j. sample x (8 * i + j)) u v)

  -- which components are zero by the class of (u,v)
  pub zero_place : (u v k : ℕ) → u < 8 → v < 8 → k < 8 → among (components_at u v) k ≡ false → get_or (job_left (forward_job 2 x e)) (8 * (8 * u + v) + k) (pos 0) ≡ pos 0
  zero_place u v k h l m c = component-place u v k h l m ∙ zero_component (λ i j. sample x (8 * i + j)) u v k h l m c

  -- "the magnitudes of an element's eight components sum to at most" the limit
  pub magnitudes-place : (p : ℕ) → p < places → magnitudes (element_at (job_left (forward_job 2 x e)) p) ≤ magnitudes_limit
  magnitudes-place p h = (forward-set 1 x e accepts).in_limit p h
