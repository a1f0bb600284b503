-- A buffer is of another length, or a number is above the limit, and then its element is; or neither.
use Rattle.std.specs.Prelude.{◌≡◌, Err}
use borrow.Author.Rules.{rules}
use Rattle.integers.specs.Kit.{sym, ◌∙◌, pos, get_or}
use Rattle.integers.proofs.Ranges.{within_limit}
use Rattle.integers.proofs.Search.{any_none}
use Rattle.limits.specs.Limits.{magnitudes_limit}
use Rattle.answers.proofs.Causes.{sized_accepted, sized_is, sized_refused}
use Rattle.back_passes.specs.Passes.{read_size}
use Rattle.back.proofs.Causes.{length-read, read_any, too_large}
use Rattle.back.proofs.check.Goals as goal

pub returns-in_err-sized : goal.returns-in_err-sized
returns-in_err-sized c =
    let passed : c.from_residual.result ≡ Err c.in_err-sized.field-0.0 = search rules in
    rw passed (sized_refused _ _ _ _ _ c.in_err-sized.ensures)

pub returns-in_err-sized-2 : goal.returns-in_err-sized-2
returns-in_err-sized-2 c =
    let passed : c.from_residual-in_err-sized-2.result ≡ Err c.in_err-sized-2.field-0.0 = search rules in
    rw passed (sized_accepted _ _ _ _ _ c.in_ok-sized.ensures (sized_refused _ _ _ _ _ c.in_err-sized-2.ensures))

pub slice_bounds-any_outside-end : goal.slice_bounds-any_outside-end
slice_bounds-any_outside-end c = sym (length-read c.args.elements.now (sized_is _ _ c.in_ok-sized.ensures))

pub refusal-requires : goal.refusal-requires
refusal-requires c = sized_is _ _ c.in_ok-sized.ensures

pub returns-then-any_outside : goal.returns-then-any_outside
returns-then-any_outside c =
    let size = sized_is _ _ c.in_ok-sized.ensures in
    let any = sym (c.any_outside.ensures ∙ read_any c.args.elements.now size) ∙ c.if-any_outside.true in
    (too_large _ _ size (sized_is _ _ c.in_ok-sized-2.ensures) c.refusal.ensures any).0

pub returns-else-any_outside : goal.returns-else-any_outside
returns-else-any_outside c =
    let e = c.args.elements.now in
    let size = sized_is _ _ c.in_ok-sized.ensures in
    let none = any_none read_size _ (sym (c.any_outside.ensures ∙ read_any e size) ∙ c.if-any_outside.false) in
    (record { size = size; in_limit = λ i h. within_limit magnitudes_limit (get_or e i (pos 0)) (none i h) }, sized_is _ _ c.in_ok-sized-2.ensures)
