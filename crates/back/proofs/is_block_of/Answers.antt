-- Forward refuses the block, or what it makes of it is compared.
use Rattle.integers.specs.Kit.{sym, ap, ◌∙◌, pos, replicate}
use lib.ListN.{length-replicate}
use Rattle.integers.specs.Test.{eq_list}
use Rattle.answers.specs.Answer.{accepted}
use Rattle.back.proofs.Comparison.{accepts_ok, forward_accepts, forward_refuses}
use Rattle.back.proofs.is_block_of.Goals as goal

pub returns-then-is_ok : goal.returns-then-is_ok
returns-then-is_ok c =
    let forward = c.forward.ensures in
    let e = c.args.elements.now in
    let yes = ap accepted (sym forward.result_value) ∙ accepts_ok c.forward.result ∙ sym c.is_ok.ensures.value ∙ c.if-is_ok.true in
    c.same.ensures ∙ ap (λ l. eq_list l e) forward.elements_after ∙ forward_accepts 2 c.args.block.now e (replicate 512 (pos 0)) yes

pub returns-else-is_ok : goal.returns-else-is_ok
returns-else-is_ok c =
    let no = ap accepted (sym c.forward.ensures.result_value) ∙ accepts_ok c.forward.result ∙ sym c.is_ok.ensures.value ∙ c.if-is_ok.false in
    c.if-is_ok.false ∙ forward_refuses 2 c.args.block.now c.args.elements.now (replicate 512 (pos 0)) c.told-block (length-replicate 512 (pos 0)) no
