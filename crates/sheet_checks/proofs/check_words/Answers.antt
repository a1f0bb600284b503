-- `check_words` meets its contract: the search in the body finds the first faulty word, or the end word decides.
use Rattle.std.specs.Prelude.{◌≡◌, ◌∷◌}
use Rattle.integers.specs.Kit.{◌∙◌, [], length}
use native.Mathlib.Omega.{arith}
use borrow.Author.Rules.{rules}
use Rattle.answers.specs.Answer.{accept_with, refused, returned_with}
use Rattle.answers.proofs.Causes.{accepted_first, no_more, refused_first}
use Rattle.sheet_checks.specs.Check.{contents}
use Rattle.sheet_checks.proofs.Faults.{cause_named, found_in_body, none_in_body}
use Rattle.sheet_checks.proofs.check_words.Goals as goal

pub returns-in-Some : goal.returns-in-Some
returns-in-Some c =
    let f = c.args.f in
    let words = c.args.sheet.now in
    let first = found_in_body f words (omega arith) c.in-Some.ensures c.body_refusal.ensures in
    refused_first (contents f words ∷ []) [] (accept_with (length words)) _ 0 first

pub returns-in_err-check_end-in-None : goal.returns-in_err-check_end-in-None
returns-in_err-check_end-in-None c =
    let f = c.args.f in
    let words = c.args.sheet.now in
    let passed : returned_with (λ n. n) c.from_residual.result ≡ refused c.in_err-check_end-in-None.field-0.0 = search rules in
    let end = none_in_body f words (omega arith) c.in-None.ensures (omega arith) (rw c.blocks-in-None.ensures at c.in_err-check_end-in-None.ensures) in
    passed ∙ refused_first (contents f words ∷ []) [] (accept_with (length words)) _ 0 end

pub returns-in_ok-check_end-in-None : goal.returns-in_ok-check_end-in-None
returns-in_ok-check_end-in-None c =
    let f = c.args.f in
    let words = c.args.sheet.now in
    let end = none_in_body f words (omega arith) c.in-None.ensures (omega arith) (rw c.blocks-in-None.ensures at c.in_ok-check_end-in-None.ensures) in
    let all = accept_with (length words) in
    accepted_first (contents f words ∷ []) [] all all ((λ i t. cause_named f words i), tt) 0 0 end (no_more all)
