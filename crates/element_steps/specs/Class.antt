-- Rows of elements that have only some components, the others being 0, and what their steps are sums of.
use Rattle.std.specs.Prelude.{◌≡◌, ◌<◌}
use Rattle.integers.specs.Kit.{List, ℕ, ℤ, pos}
use Rattle.ring.specs.Element.{cosine, mul}
use Rattle.ring.specs.Maps.{part}
use Rattle.dct.specs.Rows.{restricted}
use Rattle.dct.specs.Transform.{step}
use Rattle.elements.specs.declared.Element.{Element}
use Rattle.elements.specs.Buffer.{item}

-- each of the eight elements of a row has no components but k 0 to k (m - 1): its others are 0
pub record OnlyComponents (m : ℕ) (k : ℕ → ℕ) (row : List Element) : Type 0 where
  pub counts : (n : ℕ) → n < 8 → restricted m k (item row n) ≡ item row n

-- c_k times frequency f of the whole numbers at component k of a row
abbrev pub part_step : List Element → ℕ → ℕ → List ℤ
part_step x k f = mul (cosine (pos k)) (step (λ n. part (item x n) k) f)
