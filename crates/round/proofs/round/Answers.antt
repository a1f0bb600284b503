-- The check decides, and past it `fill` makes the coefficients.
use Rattle.integers.specs.Kit.{lit≤}
use Rattle.answers.proofs.Jobs.{done, is_accepted, refused}
use Rattle.coefficients.proofs.Blocks.{ready}
use Rattle.coefficients.proofs.Distance.{all_near}
use Rattle.round.specs.Round.{round_job}
use Rattle.round.proofs.Acceptance.{accepted_means}
use Rattle.round.proofs.round.Goals as goal

pub returns-in_err-width-clause-coefficients_after : goal.returns-in_err-width-clause-coefficients_after
returns-in_err-width-clause-coefficients_after c =
    let args = c.args in
    refused (round_job 2 args.elements.now args.b args.coefficients.now) _ c.in_err-width.ensures.returned_value

pub fill-requires : goal.fill-requires
fill-requires c =
    let args = c.args in
    let accepted = is_accepted (round_job 2 args.elements.now args.b args.coefficients.now) _ c.in_ok-width.ensures.returned_value in
    let (S, l, w) = accepted_means 2 args.elements.now args.b args.coefficients.now accepted in
    ready 2 args.elements.now args.coefficients.now (lit≤ tt) (lit≤ tt) S l

pub returns-clause-coefficients_after : goal.returns-clause-coefficients_after
returns-clause-coefficients_after c =
    let args = c.args in
    let made = rw c.in_ok-width.ensures.width_value at c.fill.ensures in
    done (round_job 2 args.elements.now args.b args.coefficients.now) _ c.in_ok-width.ensures.returned_value made

pub returns-clause-all_near : goal.returns-clause-all_near
returns-clause-all_near c =
    let args = c.args in
    let accepted = is_accepted (round_job 2 args.elements.now args.b args.coefficients.now) _ c.in_ok-width.ensures.returned_value in
    let (S, l, w) = accepted_means 2 args.elements.now args.b args.coefficients.now accepted in
    λ h. rw (c.fill.ensures, c.in_ok-width.ensures.width_value) (all_near 2 args.elements.now args.b (lit≤ tt) S w)
