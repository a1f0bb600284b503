-- `put` meets its contract: the places of the part are lent to the copy.
use Rattle.integers.specs.Kit.{refl}
use borrow.Author.Rules.{rules}
use native.Mathlib.Omega.{arith}
use Rattle.text.proofs.Lines.{lent}
use Rattle.text.proofs.Writer.put.Goals as goal

pub returns : goal.returns
returns c = record {
  appended = lent c.args.part.now c.args.self.now.output.now c.copy_from_slice.new.self c.args.self.now.at _ c.requires (omega arith) c.copy_from_slice.ensures.after;
  same_length = search rules;
  same_reference = refl;
}
