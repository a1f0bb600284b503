-- What the functions behind `round` ask, which is that its causes of refusal were ruled out, and how far N and its terms go.
use Rattle.std.specs.Prelude.{◌≡◌, ◌*◌, ◌%◌, ◌^◌, ◌≤◌, ◌<◌, ◌+ℤ◌, ◌*ℤ◌}
use Rattle.integers.specs.Kit.{List, ℕ, suc, ℤ, pos, length}
use Rattle.integers.specs.Sum.{sum}
use Rattle.ring.specs.Element.{component}
use Rattle.limits.specs.Limits.{sample_limit, magnitudes_limit_in}
use Rattle.element_sets.specs.Sets.{AcceptedSet}

-- the limit of magnitudes that the code allows for: that of three dimensions, 2^26, which is above that of two
abbrev pub ample_limit : ℕ
ample_limit = magnitudes_limit_in sample_limit 3

-- what N and its terms do not exceed: 2^53, with table numbers of at most 2^27 at the largest width
abbrev pub largest : ℕ
largest = 2 ^ 27 * ample_limit

-- N as far as it is summed: 2^b·u_0 + m_1·u_1 + ... + m_n·u_n
abbrev pub partial : ℕ → List ℤ → List ℤ → ℕ → ℤ
partial b m u n = pos (2 ^ b) *ℤ component u 0 +ℤ sum (pos 0) ◌+ℤ◌ n (λ k. component m k *ℤ component u (suc k))

-- h halvings are 1 to 5, which two dimensions, with 1, and three, with 3, do not exceed
pub record Halvings (h : ℕ) : Type 0 where
  pub some : 1 ≤ h
  pub few : h ≤ 5

-- the components of u besides u_0 whose indices have the remainder h by 2 are 0
pub record HalfZero (h : ℕ) (u : List ℤ) : Type 0 where
  pub at : (k : ℕ) → 0 < k → k % 2 ≡ h → component u k ≡ pos 0

-- for a sum of the terms of N from a first one on, in steps: the terms that it passes over are 0
pub data Terms (u : List ℤ) : ℕ → ℕ → Type 0 where
  all : Terms u 0 1
  odds : HalfZero 0 u → Terms u 0 2
  evens : HalfZero 1 u → Terms u 1 2

-- for the coefficients of n elements, with h halvings: they are an accepted set, and there is room for n coefficients
pub record Ready (n h : ℕ) (elements coefficients : List ℤ) : Type 0 where
  pub ready_set : AcceptedSet n ample_limit elements
  pub ready_room : length coefficients ≡ n
  pub ready_halvings : Halvings h
