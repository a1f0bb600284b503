-- `check_steps` refuses, or leaves it to the coefficients.
use Rattle.std.specs.Prelude.{◌≡◌}
use Rattle.integers.specs.Kit.{◌∙◌}
use borrow.Author.Rules.{rules}
use Rattle.integers.specs.Range.{beyond_at}
use Rattle.limits.specs.Limits.{coefficient_limit}
use Rattle.answers.specs.Answer.{accept, refused, returned}
use Rattle.answers.proofs.Causes.{found_refused, no_more, none_found}
use Rattle.quantize.proofs.Acceptance.{places_decide, ready, steps_refused}
use Rattle.quantize.proofs.check.Goals as goal

pub returns-in_err-check_steps : goal.returns-in_err-check_steps
returns-in_err-check_steps c =
    let passed : returned c.from_residual.result ≡ refused c.in_err-check_steps.field-0.0 = search rules in
    passed ∙ steps_refused (beyond_at coefficient_limit c.args.coefficients.now) _ _ _ _ c.in_err-check_steps.ensures

pub returns-in-Some : goal.returns-in-Some
returns-in-Some c =
    let steps = c.in_ok-check_steps.ensures in
    places_decide (beyond_at coefficient_limit c.args.coefficients.now) _ _ _ steps (found_refused _ _ _ _ _ (rw (ready steps).numbers at c.in-Some.ensures))

pub returns-in-None : goal.returns-in-None
returns-in-None c =
    let steps = c.in_ok-check_steps.ensures in
    let none = none_found _ _ _ _ _ _ (rw (ready steps).numbers at c.in-None.ensures) (no_more accept) in
    places_decide (beyond_at coefficient_limit c.args.coefficients.now) _ _ _ steps none
