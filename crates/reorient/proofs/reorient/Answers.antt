-- The check decides, and past it `orient` makes the elements.
use Rattle.answers.proofs.Jobs.{done, is_accepted, refused}
use Rattle.reorient.specs.Reorient.{reorient_job}
use Rattle.reorient.proofs.Acceptance.{accepted_means}
use Rattle.reorient.proofs.reorient.Goals as goal

pub returns-in_err-known-clause-output_after : goal.returns-in_err-known-clause-output_after
returns-in_err-known-clause-output_after c =
    let args = c.args in
    refused (reorient_job args.elements.now args.orientation args.output.now) _ c.in_err-known.ensures.returned_value

pub orient-requires : goal.orient-requires
orient-requires c =
    let args = c.args in
    let accepted = is_accepted (reorient_job args.elements.now args.orientation args.output.now) _ c.in_ok-known.ensures.returned_value in
    let (set, below, room) = accepted_means args.elements.now args.orientation args.output.now accepted in
    record { accepted_set = set; output_len = room }

pub returns-clause-output_after : goal.returns-clause-output_after
returns-clause-output_after c =
    let args = c.args in
    let made = rw c.in_ok-known.ensures.orientation_value at c.orient.ensures in
    done (reorient_job args.elements.now args.orientation args.output.now) _ c.in_ok-known.ensures.returned_value made
