-- `power` meets its contract: the bit that is shifted stays below the sign.
use Rattle.std.specs.Prelude.{◌≡◌, ◌*◌, ◌^◌, ◌%◌, ◌<◌}
use Rattle.integers.specs.Kit.{ap, ◌∙◌, lit<}
use native.Mathlib.Nat.{one-mul}
use native.Mathlib.Omega.{arith}
use lib.Pow.{pow-lt, shl_exact}
use mir.Syntax.{w64}
use mir.Val.{to_z}
use mir.Facts.{to_z_pos}
use Rattle.coefficients.proofs.Tables.{width_small}
use Rattle.coefficients.proofs.Table.power.Goals as goal

pub returns : goal.returns
returns c =
    let b = c.args.self.bits in
    let below : b < 63 = omega (arith, width_small b c.args.self.at_width) in
    let e : (1 * 2 ^ b) % 2 ^ 64 ≡ 2 ^ b = shl_exact 1 b 64 (lit< tt) (omega arith) ∙ one-mul (2 ^ b) in
    ap (to_z w64) e ∙ to_z_pos w64 (pow-lt below)
