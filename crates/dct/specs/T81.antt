-- The 2-D transform in the words of ITU-T T.81, A.3.3, with i and u counting down, j and v across. T.81 writes S_vu and s_yx, with x
-- and u across, y and v down; 01 has (u,v) the other way round, and so has this file: i and u are T.81's y and v, j and v its x and u.
-- S(u,v) = 1/4 · C(u) · C(v) · sum over i, j of s(i,j) · cos((2i+1)·u·π/16) · cos((2j+1)·v·π/16), C(0) = 1/√2, and C(k) = 1 for other k.
-- The ring has 2·cos, and 2·C(0) = √2 = c_4, and neither cos nor C(0). Four doubled factors are 16, and with the 1/4 this is 64 times S.
use Rattle.std.specs.Prelude.{◌+◌, ◌*◌}
use Rattle.integers.specs.Kit.{List, [], ℕ, zero, suc, ℤ, pos}
use Rattle.integers.specs.Sum.{sum}
use Rattle.ring.specs.Element.{add, scale, integer, cosine, mul}

-- 2·C(k): 2/√2 = √2 = 2·cos(4·π/16) where k = 0, and 2 otherwise
unfoldable pub twice_C : ℕ → List ℤ
twice_C zero = cosine (pos 4)
twice_C (suc k) = integer (pos 2)

-- 64·S(u,v) = 2·C(u) · 2·C(v) · sum over i, j of s(i,j) · 2·cos(..) · 2·cos(..)
unfoldable pub sixty_four_S : (ℕ → ℕ → ℤ) → ℕ → ℕ → List ℤ
sixty_four_S s u v =
    mul (mul (twice_C u) (twice_C v))
    (sum [] add 8 (λ i. sum [] add 8 (λ j. scale (s i j) (mul (cosine (pos ((2 * i + 1) * u))) (cosine (pos ((2 * j + 1) * v)))))))
