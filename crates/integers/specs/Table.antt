-- Lists given by a rule: how a contract says what a buffer holds.
use Rattle.std.specs.Prelude.{◌≡◌, ◌∷◌, ◌++◌, ◌<◌}
use Rattle.integers.specs.Kit.{List, [], ℕ, zero, suc, ℤ, pos, length, take, drop, get_or}

-- the list f 0, f 1, ..., f (n - 1)
abbrev pub table {ℓ} : {A : Type ℓ} → ℕ → (ℕ → A) → List A
table zero f = []
table (suc n) f = f zero ∷ table n (λ k. f (suc k))

-- the list l after p, which is no longer than l, was written over its start: beyond p it is as it was
unfoldable pub over {ℓ} : {A : Type ℓ} → List A → List A → List A
over p l = p ++ drop (length p) l

-- the list l after p, which fits there, was written into it from index a on: before that, and behind p, it is as it was
unfoldable pub over_at {ℓ} : {A : Type ℓ} → ℕ → List A → List A → List A
over_at a p l = take a l ++ over p (drop a l)

-- `left` is the list `was` after f i was written at each index i with part i = u; at the others it is as it was
pub record PartStored (part : ℕ → ℕ) (u : ℕ) (f : ℕ → ℤ) (was left : List ℤ) : Type 0 where
  pub size : length left ≡ length was
  pub here : (i : ℕ) → i < length was → part i ≡ u → get_or left i (pos 0) ≡ f i
  pub others : (i : ℕ) → i < length was → (part i ≡ u → ⊥) → get_or left i (pos 0) ≡ get_or was i (pos 0)
