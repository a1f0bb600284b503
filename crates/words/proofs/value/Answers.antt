-- `value` meets its contract: the rank and the count of negative values fit an i32 as they stand, and so does their difference.
use Rattle.std.specs.Prelude.{◌≡◌, ◌-ℤ◌}
use Rattle.integers.specs.Kit.{ap₂, ◌∙◌, ℕ, lit<, pos}
use native.Mathlib.Nat.{lt_of_le_of_lt}
use native.Mathlib.Omega.{arith}
use mir.Syntax.{w32}
use mir.Val.{SFits, to_z}
use mir.ValLaws.{to_z_pos}
use Rattle.integers.proofs.Signed.{in32, read_i32}
use Rattle.integers.proofs.Magnitudes.{nat_abs_sub, small_fits}
use Rattle.words.specs.Word.{payload}
use Rattle.words.proofs.Packing.{payload-below, negatives, rank, value_ranked}
use Rattle.words.proofs.value.Goals as goal

module _ (p : ℕ) where
  read : to_z w32 (rank p) -ℤ to_z w32 negatives ≡ pos (rank p) -ℤ pos negatives
  read = ap₂ ◌-ℤ◌ (to_z_pos w32 (rank p) (omega arith)) (to_z_pos w32 negatives (lit< tt))

  fits : SFits w32 (to_z w32 (rank p) -ℤ to_z w32 negatives)
  fits = rw read (small_fits w32 (pos (rank p) -ℤ pos negatives) (lt_of_le_of_lt (nat_abs_sub (pos (rank p)) (pos negatives)) (omega arith)))

  difference : in32 (to_z w32 (rank p) -ℤ to_z w32 negatives) ≡ pos (rank p) -ℤ pos negatives
  difference = read_i32 (to_z w32 (rank p) -ℤ to_z w32 negatives) fits ∙ read

pub returns : goal.returns
returns c = let p = payload c.args.w in difference p ∙ value_ranked p (payload-below c.args.w)
