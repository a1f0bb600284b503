-- How the code multiplies by c_k (01, the rules of the cosines). Component i of the product with c_k is u_(i-k) + u_(i+k), if u is continued
-- as the cosines are: u_(-m) = u_m, u_8 = 0 and u_(16-m) = -u_m. The indices run from -7 to 14.
use Rattle.std.specs.Prelude.{◌-◌}
use Rattle.integers.specs.Kit.{cond, List, ℕ, ltb, ℤ, neg_ℤ}
use Rattle.ring.specs.Element.{component}

-- u_(j-7), for j from 0 to 21
unfoldable pub continued : List ℤ → ℕ → ℤ
continued u j = cond (ltb j 7) (component u (7 - j)) (cond (ltb j 16) (component u (j - 7)) (neg_ℤ (component u (23 - j))))
