-- Each way out has its reason.
use Rattle.answers.specs.Answer.{holds, passes, none_holds}
use Rattle.answers.proofs.Causes.{only_reason, right_length, wrong_length}
use Rattle.answers.proofs.sized.Goals as goal

pub returns-then-given-asked : goal.returns-then-given-asked
returns-then-given-asked c = only_reason (passes (right_length c.if-given-asked.true) none_holds)

pub returns-else-given-asked : goal.returns-else-given-asked
returns-else-given-asked c = only_reason (holds (wrong_length c.if-given-asked.false))
