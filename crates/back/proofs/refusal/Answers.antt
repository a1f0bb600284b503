-- The search decides.
use Rattle.answers.proofs.Causes.{found_refused, no_more, none_found}
use Rattle.back.proofs.refusal.Goals as goal

pub returns-in-Some : goal.returns-in-Some
returns-in-Some c = found_refused _ _ _ _ _ (rw c.requires at c.in-Some.ensures)

pub returns-in-None : goal.returns-in-None
returns-in-None c = none_found _ _ _ _ _ _ (rw c.requires at c.in-None.ensures) (no_more _)
