-- The check decides, and past it `transform` makes the elements.
use Rattle.answers.proofs.Jobs.{done, is_accepted, refused}
use Rattle.forward.specs.Forward.{forward_job}
use Rattle.forward.proofs.Acceptance.{accepted_means}
use Rattle.forward.proofs.forward.Goals as goal

pub returns-in_err-check-clause-elements_after : goal.returns-in_err-check-clause-elements_after
returns-in_err-check-clause-elements_after c = refused (forward_job 2 c.args.samples.now c.args.elements.now) _ c.in_err-check.ensures

pub transform-requires : goal.transform-requires
transform-requires c =
    let args = c.args in
    let (s, t, range) = accepted_means 2 args.samples.now args.elements.now (is_accepted (forward_job 2 args.samples.now args.elements.now) _ c.in_ok-check.ensures) in
    record { samples_len = s; elements_len = t; all_in_range = range }

pub returns-clause-elements_after : goal.returns-clause-elements_after
returns-clause-elements_after c = done (forward_job 2 c.args.samples.now c.args.elements.now) _ c.in_ok-check.ensures c.transform.ensures
