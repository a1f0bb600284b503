-- The worked examples hold.
use Rattle.integers.specs.Kit.{refl, pos, neg_ℤ}
use Rattle.integers.specs.Nearest.{half_up, half_away}
use Rattle.integers.specs.Sum.{sum}
use Rattle.ring.specs.Element.{cosine, basis_product, mul}
use Rattle.dct.specs.Transform.{factor, factors_by, element_by}
use Rattle.rounding_error.specs.Root.{root}
use Rattle.rounding_error.specs.Width.{numerator, coefficient}
use Rattle.coefficients.specs.Tables.{table_numbers}
use Rattle.worked_examples.specs.Examples.{examples, Hold}
use Rattle.worked_examples.proofs.Constant.{constant}

-- a line holds, and the rest does
infixr 5 ◌also◌
◌also◌ : {A B : Type 0} → A → B → A × B
a also b = (a, b)

-- each line is computed, but for the blocks whose samples are all the same, of which `constant` speaks; a line here is an example of the table
pub examples_hold : Hold examples
unfolding examples cosine mul basis_product sum factor factors_by element_by root numerator coefficient half_up half_away table_numbers
examples_hold =
    refl also refl also refl also refl
    also refl also refl
    also constant (pos 1) also refl also refl also refl
    also constant (neg_ℤ (pos 2048)) also constant (pos 2047) also refl also refl also refl also refl also refl also refl
    also constant (neg_ℤ (pos 32768)) also constant (pos 32767) also refl also refl also refl also refl also refl also refl
    also refl also refl also refl also refl
    also refl also refl also refl
    also refl also refl also refl
    also tt
