-- The zig-zag order of the 64 places of a block (T.81, Figure A.6), by its walk: the place (u,v), which is 8u+v, lies on the diagonal u+v.
use Rattle.std.specs.Prelude.{◌&&◌, ◌++◌, ◌+◌, ◌-◌, ◌*◌, ◌%◌}
use Rattle.integers.specs.Kit.{Bool, cond, List, [], ℕ, zero, suc, eqb, ltb, get_or}
use Rattle.integers.specs.Search.{first}
use Rattle.integers.specs.Table.{table}
use Rattle.limits.specs.Limits.{places}

-- the top row, 0 up to d = 7, and the bottom row of the diagonal d, which is 0 to 14

abbrev top : ℕ → ℕ
top d = d - 7

abbrev bottom : ℕ → ℕ
bottom d = cond (ltb d 7) d 7

-- the row of place i of the diagonal, counted as the walk goes: upwards where d is even, downwards where it is odd
abbrev row_on : ℕ → ℕ → ℕ
row_on d i = cond (eqb (d % 2) 0) (bottom d - i) (top d + i)

-- the places of the diagonal, in this order
abbrev diagonal : ℕ → List ℕ
diagonal d = table (bottom d + 1 - top d) (λ i. 8 * row_on d i + (d - row_on d i))

-- the places of the first n diagonals
abbrev walk : ℕ → List ℕ
walk zero = []
walk (suc n) = walk n ++ diagonal n

-- the place that the order has at index k
unfoldable pub place_at : ℕ → ℕ
place_at k = get_or (walk 15) k 0

-- the index that the order gives the place p: each place has one index, and each index one place, by the two rules below (`place_of_index`, `index_of-place`)
unfoldable pub index_of : ℕ → ℕ
index_of p = first places (λ k. eqb (place_at k) p)

abbrev pub index_rule : ℕ → Bool
index_rule k = ltb (place_at k) places && eqb (index_of (place_at k)) k

abbrev pub place_rule : ℕ → Bool
place_rule p = ltb (index_of p) places && eqb (place_at (index_of p)) p

-- the indices of all places, row by row
abbrev pub indices_by_row : List ℕ
indices_by_row = table places index_of
