-- The check of the steps decides, and then the products; `narrow` stores these.
use Rattle.std.specs.Prelude.{◌≡◌}
use Rattle.integers.specs.Kit.{refl, ◌∙◌}
use borrow.Author.Rules.{rules}
use Rattle.answers.specs.Answer.{refused, returned}
use Rattle.answers.proofs.Jobs as jobs
use Rattle.quantize.proofs.Acceptance.{places_decide, ready, steps_refused}
use Rattle.dequantize.specs.Dequantize.{dequantized_beyond_at, dequantize_job}
use Rattle.dequantize.proofs.Acceptance.{narrow}
use Rattle.dequantize.proofs.dequantize.Goals as goal

pub returns-in_err-check_steps-clause-result_value : goal.returns-in_err-check_steps-clause-result_value
returns-in_err-check_steps-clause-result_value c =
    let passed : returned c.from_residual.result ≡ refused c.in_err-check_steps.field-0.0 = search rules in
    passed ∙ steps_refused (dequantized_beyond_at c.args.values.now c.args.steps.now) _ _ _ _ c.in_err-check_steps.ensures

pub returns-in_err-check_steps-clause-coefficients_after : goal.returns-in_err-check_steps-clause-coefficients_after
returns-in_err-check_steps-clause-coefficients_after c =
    let said = steps_refused (dequantized_beyond_at c.args.values.now c.args.steps.now) _ _ _ _ c.in_err-check_steps.ensures in
    jobs.refused (dequantize_job c.args.values.now c.args.steps.now c.args.coefficients.now) _ said

pub multiply-requires : goal.multiply-requires
multiply-requires c =
    let R = ready c.in_ok-check_steps.ensures in
    record { numbers = R.numbers; ready_steps = R.ready_steps; room = refl }

pub returns-in_err-multiply-clause-result_value : goal.returns-in_err-multiply-clause-result_value
returns-in_err-multiply-clause-result_value c =
    let passed : returned c.from_residual-in_err-multiply.result ≡ refused c.in_err-multiply.field-0.0 = search rules in
    let said = c.in_err-multiply.ensures.returned_value in
    passed ∙ places_decide (dequantized_beyond_at c.args.values.now c.args.steps.now) _ _ _ c.in_ok-check_steps.ensures said

pub returns-in_err-multiply-clause-coefficients_after : goal.returns-in_err-multiply-clause-coefficients_after
returns-in_err-multiply-clause-coefficients_after c =
    let said = c.in_err-multiply.ensures.returned_value in
    jobs.refused (dequantize_job c.args.values.now c.args.steps.now c.args.coefficients.now) _
    (places_decide (dequantized_beyond_at c.args.values.now c.args.steps.now) _ _ _ c.in_ok-check_steps.ensures said)

pub narrow-requires : goal.narrow-requires
narrow-requires c =
    let said = c.in_ok-multiply.ensures in
    record {
      narrow = narrow c.args.values.now c.args.steps.now said.products_after said.returned_value;
      coefficients_len = (ready c.in_ok-check_steps.ensures).room;
    }

pub returns-clause-result_value : goal.returns-clause-result_value
returns-clause-result_value c =
    places_decide (dequantized_beyond_at c.args.values.now c.args.steps.now) _ _ _ c.in_ok-check_steps.ensures c.in_ok-multiply.ensures.returned_value

pub returns-clause-coefficients_after : goal.returns-clause-coefficients_after
returns-clause-coefficients_after c =
    let multiplied = c.in_ok-multiply.ensures in
    let said = places_decide (dequantized_beyond_at c.args.values.now c.args.steps.now) _ _ _ c.in_ok-check_steps.ensures multiplied.returned_value in
    jobs.done (dequantize_job c.args.values.now c.args.steps.now c.args.coefficients.now) _ said (c.narrow.ensures ∙ multiplied.products_after)
