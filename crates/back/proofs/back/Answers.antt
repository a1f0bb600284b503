-- The check refuses, or what the passes restore is compared, and stored where it is the block.
use Rattle.std.specs.Prelude.{◌≡◌}
use Rattle.integers.specs.Kit.{◌∙◌, length}
use borrow.Author.Rules.{rules}
use Rattle.limits.specs.Limits.{places}
use Rattle.answers.specs.Answer.{returned}
use Rattle.answers.specs.Answer as answers
use Rattle.answers.proofs.Jobs.{done, refused}
use Rattle.back.specs.Back.{back_job}
use Rattle.back.proofs.Causes.{found_block, no_block}
use Rattle.back.proofs.back.Goals as goal

pub returns-in_err-check-clause-result_value : goal.returns-in_err-check-clause-result_value
returns-in_err-check-clause-result_value c =
    let passed : returned c.from_residual.result ≡ answers.refused c.in_err-check.field-0.0 = search rules in
    passed ∙ c.in_err-check.ensures

pub returns-in_err-check-clause-samples_after : goal.returns-in_err-check-clause-samples_after
returns-in_err-check-clause-samples_after c = refused (back_job 2 c.args.elements.now c.args.samples.now) _ c.in_err-check.ensures

pub returns-then-not-is_block_of-clause-result_value : goal.returns-then-not-is_block_of-clause-result_value
returns-then-not-is_block_of-clause-result_value c =
    let (limited, room) = c.in_ok-check.ensures in
    (no_block _ _ limited.size room c.is_block_of.ensures c.restored-block.ensures c.refusal.ensures c.if-not-is_block_of.true).0

pub returns-then-not-is_block_of-clause-samples_after : goal.returns-then-not-is_block_of-clause-samples_after
returns-then-not-is_block_of-clause-samples_after c =
    let (limited, room) = c.in_ok-check.ensures in
    let said = (no_block _ _ limited.size room c.is_block_of.ensures c.restored-block.ensures c.refusal.ensures c.if-not-is_block_of.true).0 in
    refused (back_job 2 c.args.elements.now c.args.samples.now) _ said

pub store-requires : goal.store-requires
store-requires c = c.in_ok-check.ensures.1

pub returns-clause-result_value : goal.returns-clause-result_value
returns-clause-result_value c =
    let (limited, room) = c.in_ok-check.ensures in
    let size : length c.restored-block.result ≡ places = search rules in
    (found_block _ _ limited.size room c.is_block_of.ensures size c.if-not-is_block_of.false).0

pub returns-clause-samples_after : goal.returns-clause-samples_after
returns-clause-samples_after c =
    let (limited, room) = c.in_ok-check.ensures in
    let size : length c.restored-block.result ≡ places = search rules in
    let (said, block) = found_block _ _ limited.size room c.is_block_of.ensures size c.if-not-is_block_of.false in
    done (back_job 2 c.args.elements.now c.args.samples.now) _ said (c.store.ensures ∙ block)
