-- The check decides, and past it `fill` makes the values.
use Rattle.answers.proofs.Jobs.{done, is_accepted, refused}
use Rattle.quantize.specs.Quantize.{quantize_job}
use Rattle.quantize.proofs.Acceptance.{quantize_means}
use Rattle.quantize.proofs.quantize.Goals as goal

pub returns-in_err-check-clause-values_after : goal.returns-in_err-check-clause-values_after
returns-in_err-check-clause-values_after c =
    let args = c.args in
    refused (quantize_job args.coefficients.now args.steps.now args.values.now) _ c.in_err-check.ensures

pub fill-requires : goal.fill-requires
fill-requires c =
    let args = c.args in
    let accepted = is_accepted (quantize_job args.coefficients.now args.steps.now args.values.now) _ c.in_ok-check.ensures in
    quantize_means args.coefficients.now args.steps.now args.values.now accepted

pub returns-clause-values_after : goal.returns-clause-values_after
returns-clause-values_after c =
    let args = c.args in
    done (quantize_job args.coefficients.now args.steps.now args.values.now) _ c.in_ok-check.ensures c.fill.ensures
