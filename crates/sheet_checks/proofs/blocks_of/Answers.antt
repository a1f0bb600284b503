-- `blocks_of` meets its contract: its tests are those of a head that is allowed.
use Rattle.integers.specs.Kit.{sym, ◌∙◌}
use native.Mathlib.Omega.{arith}
use Rattle.sheet_checks.proofs.Heads.{allowed, factors, head_means, means_head, not_allowed, some_blocks}
use Rattle.sheet_checks.proofs.blocks_of.Goals as goal
use Rattle.sheet_checks.proofs.blocks_of.Goals.{else-kind_number-head-via-then-kind_number-head+then-n-gt0+else-n-le-BLOCKS_LIMIT}
use Rattle.sheet_checks.proofs.blocks_of.Goals.{else-kind_number-head-via-then-kind_number-head+else-n-gt0, else-kind_number-head-via-else-kind_number-head}

pub returns-in_default : goal.returns-in_default
returns-in_default c = not_allowed _ _ (λ h. let (some, _, _, _, _) = head_means _ _ h in omega arith)

pub returns-then-n-le-BLOCKS_LIMIT : goal.returns-then-n-le-BLOCKS_LIMIT
returns-then-n-le-BLOCKS_LIMIT c =
    let head = c.args.head in
    let words = c.args.sheet.now in
    let (a, d) = factors _ _ (rw c.blocks-n.ensures at c.if-n-gt0.true) in
    rw c.blocks-n.ensures (allowed head words (means_head head words (omega arith)
    (sym c.kind_number.ensures ∙ c.if-kind_number-head.true) a d (rw c.blocks-n.ensures at c.if-n-le-BLOCKS_LIMIT.true)))

pub returns-else-kind_number-head : goal.returns-else-kind_number-head
returns-else-kind_number-head c = not_allowed c.args.head c.args.sheet.now (λ h.
    let (_, same, _, _, few) = head_means c.args.head c.args.sheet.now h in
    let more = some_blocks c.args.head c.args.sheet.now h in
    elim c.else-kind_number-head.branch [
      | else-kind_number-head-via-then-kind_number-head+then-n-gt0+else-n-le-BLOCKS_LIMIT w ↦ omega (arith, c.blocks-n.ensures)
      | else-kind_number-head-via-then-kind_number-head+else-n-gt0 w ↦ omega (arith, c.blocks-n.ensures)
      | else-kind_number-head-via-else-kind_number-head w ↦ absurd (w.if-kind_number-head.false (c.kind_number.ensures ∙ same))
    ])
