-- No two numbers obey the rule of one table number, and none that does is above 2^(b+1): for every width.
use Rattle.std.specs.Prelude.{◌≡◌, ◌+◌, ◌^◌, ◌≤◌, ◌+ℤ◌, ◌-ℤ◌, ◌*ℤ◌}
use Rattle.integers.specs.Kit.{ℕ, T, ℤ, pos, negsuc, nat_abs}
use Prim.Native.Nat.{zero-le}
use native.Mathlib.Omega.{arith}
use lib.Dec.{leb→le}
use lib.IntN.{*ℤ_comm}
use lib.Signed.{◌≤ℤ◌, ◌<ℤ◌}
use mir.Facts.{and_yes}
use Rattle.integers.proofs.Integer.{as_dif, dif_le, dif_lt, difs, *ℤ-<ℤ_cancel, ≤ℤ_antisym, pos_≤ℤ}
use Rattle.rounding_error.specs.Fraction.{whole, quarter}
use Rattle.rounding_error.specs.Root.{root, below, above}
use Rattle.rounding_error.specs.Width.{less_by, more_by, is_table_number}
use Rattle.rounding_error.proofs.Order.{less_yes}
use Rattle.rounding_error.proofs.Below.{below-less-above}
use Rattle.rounding_error.proofs.Some.{between}

pub under_below : (b k : ℕ) (m : ℤ) → T (is_table_number b k m) → T (below (root k) (less_by 1 b m))
unfolding is_table_number
under_below b k m t = (and_yes (below (root k) (less_by 1 b m)) (above (root k) (more_by 1 b m)) t).0

pub over-above : (b k : ℕ) (m : ℤ) → T (is_table_number b k m) → T (above (root k) (more_by 1 b m))
unfolding is_table_number
over-above b k m t = (and_yes (below (root k) (less_by 1 b m)) (above (root k) (more_by 1 b m)) t).1

-- 2m - 1 < 2n + 1 gives m ≤ n, as m and n are whole numbers
halves : (m n : ℤ) → (pos 2 *ℤ m -ℤ pos 1) <ℤ (pos 2 *ℤ n +ℤ pos 1) → m ≤ℤ n
halves m n h =
    let k = (dif_lt _ _ _ _).0 (simp difs at (rw (as_dif m, as_dif n, as_dif (pos 2), as_dif (pos 1), as_dif (negsuc 0)) at h)) in
    rw (as_dif m, as_dif n) ((dif_le _ _ _ _).1 (omega arith))

at_most_other : (b k : ℕ) (m n : ℤ) → T (is_table_number b k m) → T (is_table_number b k n) → m ≤ℤ n
at_most_other b k m n s t =
    let first = less_yes (less_by 1 b m) (more_by 1 b n) (below-less-above (root k) (less_by 1 b m) (more_by 1 b n) (under_below b k m s) (over-above b k n t)) in
    halves m n (*ℤ-<ℤ_cancel (2 ^ (b + 1)) (rw (*ℤ_comm (pos 2 *ℤ m -ℤ pos 1) (pos (2 ^ (b + 1))), *ℤ_comm (pos 2 *ℤ n +ℤ pos 1) (pos (2 ^ (b + 1)))) at first))

pub only-table-number : (b k : ℕ) (m n : ℤ) → T (is_table_number b k m) → T (is_table_number b k n) → m ≡ n
only-table-number b k m n s t = ≤ℤ_antisym (at_most_other b k m n s t) (at_most_other b k n m t s)

-- as c_k lies between 1/4 and 2

below_double : (m d : ℤ) → ((pos 2 *ℤ m -ℤ pos 1) *ℤ pos 1) <ℤ (pos 2 *ℤ d) → m ≤ℤ d
below_double m d h =
    let l = (dif_lt _ _ _ _).0 (simp difs at (rw (as_dif m, as_dif d, as_dif (pos 2), as_dif (pos 1), as_dif (negsuc 0)) at h)) in
    rw (as_dif m, as_dif d) ((dif_le _ _ _ _).1 (omega arith))

above_zero : (m d : ℤ) → pos 0 ≤ℤ d → (pos 1 *ℤ d) <ℤ ((pos 2 *ℤ m +ℤ pos 1) *ℤ pos 4) → pos 0 ≤ℤ m
above_zero m d p h =
    let k = (dif_le _ _ _ _).0 (rw (as_dif d, as_dif (pos 0)) at p) in
    let l = (dif_lt _ _ _ _).0 (simp difs at (rw (as_dif m, as_dif d, as_dif (pos 2), as_dif (pos 1), as_dif (pos 4)) at h)) in
    rw (as_dif m, as_dif (pos 0)) ((dif_le _ _ _ _).1 (omega arith))

small : (m : ℤ) (D : ℕ) → pos 0 ≤ℤ m → m ≤ℤ pos D → nat_abs m ≤ D
small (pos n) D h k = leb→le n D k.le
small (negsuc n) D h k = absurd h.le

pub number_small : (b k : ℕ) → 1 ≤ k → k ≤ 7 → (m : ℤ) → T (is_table_number b k m) → nat_abs m ≤ 2 ^ (b + 1)
number_small b k l h m t =
    let two = whole (pos 2) in
    let D = 2 ^ (b + 1) in
    small m D
    (above_zero m (pos D) (pos_≤ℤ zero-le) (less_yes quarter (more_by 1 b m) (below-less-above (root k) quarter (more_by 1 b m) (between k l h).0 (over-above b k m t))))
    (below_double m (pos D) (less_yes (less_by 1 b m) two (below-less-above (root k) (less_by 1 b m) two (under_below b k m t) (between k l h).1)))
