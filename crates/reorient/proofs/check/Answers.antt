-- Each check refuses by its cause, or leaves it to the next.
use Rattle.std.specs.Prelude.{◌≡◌}
use Rattle.integers.specs.Kit.{◌∙◌}
use borrow.Author.Rules.{rules}
use Rattle.answers.specs.Answer.{fails, holds, none_holds, passes, refused, returned}
use Rattle.answers.proofs.Causes.{found_names, found_passes, only_reason, sized_accepted, sized_is, sized_refused}
use Rattle.reorient.proofs.Acceptance.{known}
use Rattle.reorient.proofs.check.Goals as goal

pub returns-in_err-sized-clause-returned_value : goal.returns-in_err-sized-clause-returned_value
returns-in_err-sized-clause-returned_value c =
    let passed : returned c.from_residual.result ≡ refused c.in_err-sized.field-0.0 = search rules in
    passed ∙ sized_refused _ _ _ _ _ c.in_err-sized.ensures

pub returns-in_err-sized-2-clause-returned_value : goal.returns-in_err-sized-2-clause-returned_value
returns-in_err-sized-2-clause-returned_value c =
    let passed : returned c.from_residual-in_err-sized-2.result ≡ refused c.in_err-sized-2.field-0.0 = search rules in
    passed ∙ sized_accepted _ _ _ _ _ c.in_ok-sized.ensures (sized_refused _ _ _ _ _ c.in_err-sized-2.ensures)

pub returns-in_err-known-clause-returned_value : goal.returns-in_err-known-clause-returned_value
returns-in_err-known-clause-returned_value c =
    let passed : returned c.from_residual-in_err-known.result ≡ record { number = 9; place = 0 } = search rules in
    let none = only_reason (holds (fails c.in_err-known.ensures.1)) in
    passed ∙ sized_accepted _ _ _ _ _ c.in_ok-sized.ensures (sized_accepted _ _ _ _ _ c.in_ok-sized-2.ensures none)

pub returns-in-Some-clause-returned_value : goal.returns-in-Some-clause-returned_value
returns-in-Some-clause-returned_value c =
    let size = sized_is _ _ c.in_ok-sized.ensures in
    let asked = known _ (rw c.in_ok-known.ensures at c.in_ok-known.known.known) in
    let one = holds (found_names _ _ _ (rw size at c.in-Some.ensures)) in
    sized_accepted _ _ _ _ _ c.in_ok-sized.ensures (sized_accepted _ _ _ _ _ c.in_ok-sized-2.ensures (only_reason (passes asked one)))

pub returns-in-None-clause-returned_value : goal.returns-in-None-clause-returned_value
returns-in-None-clause-returned_value c =
    let size = sized_is _ _ c.in_ok-sized.ensures in
    let asked = known _ (rw c.in_ok-known.ensures at c.in_ok-known.known.known) in
    let none = passes (found_passes _ _ (rw size at c.in-None.ensures)) none_holds in
    sized_accepted _ _ _ _ _ c.in_ok-sized.ensures (sized_accepted _ _ _ _ _ c.in_ok-sized-2.ensures (only_reason (passes asked none)))
