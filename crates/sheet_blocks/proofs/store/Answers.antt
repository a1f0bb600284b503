-- `store` meets its contract: the loop writes the words of 64 coefficients over the start of its part of the output.
use Rattle.integers.specs.Kit.{ap, ◌∙◌, pos, get_or}
use native.Mathlib.Omega.{arith}
use borrow.Author.Rules.{rules}
use Rattle.integers.proofs.Signed.{read_i32}
use Rattle.integers.proofs.Overwriting.{begun_none, begun_more, begun_all}
use Rattle.words.specs.Word.{coefficient_kind, payload_of, word}
use Rattle.sheet_blocks.proofs.store.Goals as goal

pub loop-i-init : goal.loop-i-init
loop-i-init c = begun_none c.requires.places_in_bounds

pub loop-i-preserved : goal.loop-i-preserved
loop-i-preserved c =
    let z = get_or c.args.coefficients.now c.loop-i.i (pos 0) in
    let read = read_i32 z (search rules) in
    begun_more (omega arith) c.loop-i.invariant (c.with_value.ensures ∙ ap (λ z. word coefficient_kind (payload_of z)) read)

pub returns : goal.returns
returns c = begun_all (omega arith) c.loop-i.invariant
