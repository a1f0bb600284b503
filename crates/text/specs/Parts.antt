-- A line that is written part after part into a buffer.
use Rattle.std.specs.Prelude.{◌≡◌, ◌+◌, ◌≤◌}
use Rattle.integers.specs.Kit.{List, ℕ, length}
use Rattle.integers.specs.Table.{over_at}
use Rattle.text.specs.declared.Writer.{Writer}

-- `part` was written into the buffer from index `at` on, where it has room, and ends at r: before it and behind it the buffer is as it was
pub record Appended (part : List ℕ) (at : ℕ) (before after : List ℕ) (r : ℕ) : Type 0 where
  pub room : at + length part ≤ length before
  pub end : r ≡ at + length part
  pub stored : after ≡ over_at at part before

-- the same of a writer, which keeps its buffer
pub record Wrote (part : List ℕ) (before after : Writer) : Type 0 where
  pub appended : Appended part before.at before.output.now after.output.now after.at
  pub same_length : length after.output.now ≡ length before.output.now
  pub same_reference : after.output.ghost_name ≡ before.output.ghost_name
