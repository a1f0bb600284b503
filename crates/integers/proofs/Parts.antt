-- A buffer that is written part by part, in whatever order.
use Rattle.std.specs.Prelude.{◌≡◌, ◌||◌, ◌∷◌, ◌<◌}
use Rattle.integers.specs.Kit.{◌∙◌, Bool, false, List, [], ℕ, T, eqb, ℤ, pos, length, get_or}
use native.Mathlib.Decide.{ℕ_discrete}
use borrow.Author.Tests.{ne_eqb}
use Rattle.integers.specs.Table.{table, PartStored}
use Rattle.integers.specs.Test.{every}
use Rattle.integers.proofs.Tables.{is_table}
use Rattle.integers.proofs.Tests.{every-at}

-- u stands in the list
abbrev pub listed : List ℕ → ℕ → Bool
listed [] u = false
listed (v ∷ us) u = eqb u v || listed us u

-- the parts us of a buffer of n numbers hold f
pub record PartsStored (n : ℕ) (part : ℕ → ℕ) (f : ℕ → ℤ) (us : List ℕ) (l : List ℤ) : Type 0 where
  pub size : length l ≡ n
  pub stored : (i : ℕ) → i < n → T (listed us (part i)) → get_or l i (pos 0) ≡ f i

module _ {n : ℕ} {part : ℕ → ℕ} {f : ℕ → ℤ} where
  pub parts_none : {l : List ℤ} → length l ≡ n → PartsStored n part f [] l
  parts_none e = record { size = e; stored = λ i h t. absurd t }

  pub parts_more : {us : List ℕ} {l m : List ℤ} {g : ℕ → ℤ} (u : ℕ) → PartsStored n part f us l → PartStored part u g l m
      → ((i : ℕ) → i < n → part i ≡ u → g i ≡ f i) → PartsStored n part f (u ∷ us) m
  parts_more {us} {l} {m} u R S same = record { size = S.size ∙ R.size; stored = λ i h t. go i h (rw R.size h) t (ℕ_discrete (part i) u) }
    where
      go : (i : ℕ) → i < n → i < length l → T (eqb (part i) u || listed us (part i)) → Dec (part i ≡ u) → get_or m i (pos 0) ≡ f i
      go i h b t (yes q) = S.here i b q ∙ same i h q
      go i h b t (no q) = S.others i b q ∙ R.stored i h (rw (ne_eqb (part i) u q) at t)

  -- all m parts
  pub parts_all : (m : ℕ) {us : List ℕ} {l : List ℤ} → T (every m (listed us)) → ((i : ℕ) → i < n → part i < m) → PartsStored n part f us l → l ≡ table n f
  parts_all m {us} {l} t few R = is_table (pos 0) l n f R.size (λ i h. R.stored i h (every-at m (listed us) t (part i) (few i h)))
