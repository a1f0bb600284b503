-- The zig-zag order is a permutation of the 64 places: each index has one place, and each place one index.
use Rattle.std.specs.Prelude.{◌≡◌, ◌&&◌, ◌*◌, ◌<◌}
use Rattle.integers.specs.Kit.{List, ℕ, T, eqb, ltb, get_or}
use native.Mathlib.Omega.{arith}
use lib.Dec.{eqb→eq, ltb→lt}
use mir.Facts.{and_yes}
use mir.Syntax.{w64}
use mir.Val.{Fits}
use Rattle.integers.specs.Search.{first}
use Rattle.integers.specs.Test.{every}
use Rattle.integers.proofs.Tables.{get_d_table}
use Rattle.integers.proofs.Tests.{every-at}
use Rattle.limits.specs.Limits.{places}
use Rattle.quantizer.specs.ZigZag.{place_at, index_of, index_rule, place_rule, indices_by_row}

-- both rules, computed over the whole order
permutation : T (every places (λ k. index_rule k && place_rule k))
unfolding place_at index_of first
permutation = tt

module _ (k : ℕ) (h : k < places) where
  rules : T (index_rule k) × T (place_rule k)
  rules = and_yes (index_rule k) (place_rule k) (every-at places (λ k. index_rule k && place_rule k) permutation k h)

  indexed : T (ltb (place_at k) places) × T (eqb (index_of (place_at k)) k)
  indexed = and_yes (ltb (place_at k) places) (eqb (index_of (place_at k)) k) rules.0

  placed : T (ltb (index_of k) places) × T (eqb (place_at (index_of k)) k)
  placed = and_yes (ltb (index_of k) places) (eqb (place_at (index_of k)) k) rules.1

  pub place-below : place_at k < places
  place-below = ltb→lt (place_at k) places indexed.0

  pub index_of-place : index_of (place_at k) ≡ k
  index_of-place = eqb→eq (index_of (place_at k)) k indexed.1

  pub index_below : index_of k < places
  index_below = ltb→lt (index_of k) places placed.0

  pub place_of_index : place_at (index_of k) ≡ k
  place_of_index = eqb→eq (place_at (index_of k)) k placed.1

-- as the code reads them

module _ {order : List ℕ} (e : order ≡ indices_by_row) (p : ℕ) (h : p < places) where
  pub index_read : get_or order p 0 ≡ index_of p
  index_read = rw e (get_d_table places index_of 0 p h)

  pub read_below : get_or order p 0 < places
  read_below = rw index_read (index_below p h)

  -- and so it fits a usize, as an index and as an offset in bytes

  pub index_fits : Fits w64 (get_or order p 0)
  index_fits = let l = read_below in record { fits = omega arith }

  pub offset_fits : Fits w64 (get_or order p 0 * 4)
  offset_fits = let l = read_below in record { fits = omega arith }
