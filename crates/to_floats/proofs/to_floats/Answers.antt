-- The check decides, and past it `fill` makes the floats.
use Rattle.answers.proofs.Jobs.{done, is_accepted, refused}
use Rattle.to_floats.specs.ToFloats.{to_floats_job}
use Rattle.to_floats.proofs.Acceptance.{floats_means}
use Rattle.to_floats.proofs.to_floats.Goals as goal

pub returns-in_err-check-clause-floats_after : goal.returns-in_err-check-clause-floats_after
returns-in_err-check-clause-floats_after c = refused (to_floats_job c.args.coefficients.now c.args.floats.now) _ c.in_err-check.ensures

pub fill-requires : goal.fill-requires
fill-requires c =
    let args = c.args in
    let accepted = is_accepted (to_floats_job args.coefficients.now args.floats.now) _ c.in_ok-check.ensures in
    let (within, room) = floats_means args.coefficients.now args.floats.now accepted in
    record { block_in_limit = within; floats_len = room }

pub returns-clause-floats_after : goal.returns-clause-floats_after
returns-clause-floats_after c = done (to_floats_job c.args.coefficients.now c.args.floats.now) _ c.in_ok-check.ensures c.fill.ensures
