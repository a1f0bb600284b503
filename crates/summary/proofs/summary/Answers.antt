-- The check decides, and past it `grey_of` makes the floats.
use Rattle.std.specs.Prelude.{◌≡◌}
use Rattle.integers.specs.Kit.{◌∙◌, List, ℤ}
use borrow.Author.Rules.{rules}
use Rattle.limits.specs.Limits.{places}
use Rattle.answers.specs.Answer as answers
use Rattle.answers.specs.Answer.{Returned, accept, answered, returned}
use Rattle.answers.specs.Job.{job_returned}
use Rattle.answers.proofs.Jobs.{done, is_accepted, refused}
use Rattle.to_floats.specs.ToFloats.{to_floats_causes}
use Rattle.summary.specs.Summary.{given_or_zeros, summary_job, zeros}
use Rattle.summary.proofs.Acceptance.{summary_means}
use Rattle.summary.proofs.summary.Goals as goal

-- there is room for all floats, so that the other causes decide
checked : (y : List ℤ) {a : Returned} → a ≡ answered (to_floats_causes y places) accept → a ≡ job_returned (summary_job y)
unfolding answered
checked y e = e

pub returns-in_err-check-clause-answer_value : goal.returns-in_err-check-clause-answer_value
returns-in_err-check-clause-answer_value c =
    let passed : returned c.from_residual.result ≡ answers.refused c.in_err-check.field-0.0 = search rules in
    passed ∙ checked c.args.coefficients.now c.in_err-check.ensures

pub returns-in_err-check-clause-grey_value : goal.returns-in_err-check-clause-grey_value
returns-in_err-check-clause-grey_value c =
    let none : given_or_zeros c.from_residual.result ≡ zeros = search rules in
    none ∙ refused (summary_job c.args.coefficients.now) _ (checked c.args.coefficients.now c.in_err-check.ensures)

pub grey_of-requires : goal.grey_of-requires
grey_of-requires c =
    let y = c.args.coefficients.now in
    summary_means y (is_accepted (summary_job y) _ (checked y c.in_ok-check.ensures))

pub returns-clause-answer_value : goal.returns-clause-answer_value
returns-clause-answer_value c = checked c.args.coefficients.now c.in_ok-check.ensures

pub returns-clause-grey_value : goal.returns-clause-grey_value
returns-clause-grey_value c =
    let y = c.args.coefficients.now in
    done (summary_job y) _ (checked y c.in_ok-check.ensures) c.grey_of.ensures
