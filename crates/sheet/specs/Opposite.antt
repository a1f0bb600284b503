-- Sheets of one film's positive and negative (02, request 3), for the theorems: `negative-accepted` and `negative-left`.
use Rattle.std.specs.Prelude.{◌≡◌, ◌-◌, ◌<◌}
use Rattle.integers.specs.Kit.{List, ℕ, suc, neg_ℤ}
use Rattle.words.specs.Word.{kind, payload, value}
use Rattle.sheet_checks.specs.Check.{word_at}

-- the first n words of v and w are sheets of opposite values: the heads are the same and the end words are, and the words between have the same kinds
pub record Opposite (n : ℕ) (v w : List ℕ) : Type 0 where
  pub same_head : word_at w 0 ≡ word_at v 0
  pub same_kinds : (i : ℕ) → 0 < i → suc i < n → kind (word_at w i) ≡ kind (word_at v i)
  pub opposite_values : (i : ℕ) → 0 < i → suc i < n → value (payload (word_at w i)) ≡ neg_ℤ (value (payload (word_at v i)))
  pub same_end : word_at w (n - 1) ≡ word_at v (n - 1)
