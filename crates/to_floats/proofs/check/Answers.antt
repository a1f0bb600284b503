-- Each check refuses by its cause, or leaves it to the next.
use Rattle.std.specs.Prelude.{◌≡◌}
use Rattle.integers.specs.Kit.{◌∙◌}
use borrow.Author.Rules.{rules}
use Rattle.answers.specs.Answer.{accept, refused, returned}
use Rattle.answers.proofs.Causes.{found_refused, no_more, none_found, sized_accepted, sized_is, sized_refused}
use Rattle.to_floats.proofs.check.Goals as goal

pub returns-in_err-sized : goal.returns-in_err-sized
returns-in_err-sized c =
    let passed : returned c.from_residual.result ≡ refused c.in_err-sized.field-0.0 = search rules in
    passed ∙ sized_refused _ _ _ _ _ c.in_err-sized.ensures

pub returns-in_err-sized-2 : goal.returns-in_err-sized-2
returns-in_err-sized-2 c =
    let passed : returned c.from_residual-in_err-sized-2.result ≡ refused c.in_err-sized-2.field-0.0 = search rules in
    passed ∙ sized_accepted _ _ _ _ _ c.in_ok-sized.ensures (sized_refused _ _ _ _ _ c.in_err-sized-2.ensures)

pub returns-in-Some : goal.returns-in-Some
returns-in-Some c =
    let size = sized_is _ _ c.in_ok-sized-2.ensures in
    sized_accepted _ _ _ _ _ c.in_ok-sized.ensures (sized_accepted _ _ _ _ _ c.in_ok-sized-2.ensures (found_refused _ _ _ _ _ (rw size at c.in-Some.ensures)))

pub returns-in-None : goal.returns-in-None
returns-in-None c =
    let size = sized_is _ _ c.in_ok-sized-2.ensures in
    let none = none_found _ _ _ _ _ _ (rw size at c.in-None.ensures) (no_more accept) in
    sized_accepted _ _ _ _ _ c.in_ok-sized.ensures (sized_accepted _ _ _ _ _ c.in_ok-sized-2.ensures none)
