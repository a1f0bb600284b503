-- `grey_of` meets its contract: a flat and a textured block have their law of magnitudes.
use Rattle.integers.specs.Kit.{ap, ap₂, ◌∙◌}
use mir.Syntax.{w32}
use mir.Val.{of_z}
use borrow.Author.Rules.{rules}
use Rattle.integers.proofs.Signed.{read_i32}
use Rattle.floats.specs.Fraction.{coefficient_float, mean_grey}
use Rattle.summary.specs.declared.Grey.TheVariants.{Flat, Textured}
use Rattle.summary.specs.Summary.{given}
use Rattle.to_floats.specs.ToFloats.{coefficient_at}
use Rattle.summary.proofs.Magnitudes.{flat_block, textured-block}
use Rattle.summary.proofs.grey_of.Goals as goal

pub returns-then-m-eq0 : goal.returns-then-m-eq0
returns-then-m-eq0 c =
    let y = c.args.coefficients.now in
    let mean = c.mean_grey-mean.ensures ∙ ap mean_grey (read_i32 (coefficient_at y 0) (search rules)) in
    ap (λ m. given (Flat m)) mean ∙ flat_block y (ap (of_z w32) c.largest_magnitude-m.ensures) c.if-m-eq0.true

pub returns : goal.returns
returns c =
    let y = c.args.coefficients.now in
    let p = c.largest_place-p in
    let mean = c.mean_grey-mean.ensures ∙ ap mean_grey (read_i32 (coefficient_at y 0) (search rules)) in
    let read = read_i32 (coefficient_at y p.result) (search rules) ∙ ap (coefficient_at y) p.ensures in
    let largest = c.coefficient_float.ensures ∙ ap coefficient_float read in
    ap₂ (λ m l. given (Textured m l)) mean largest ∙ textured-block y (ap (of_z w32) c.largest_magnitude-m.ensures) c.if-m-eq0.false
