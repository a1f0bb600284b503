-- The lowest index at which a test passes, which in 01 is the place that a refusal names; and the lowest of the indices that come first in an order.
use Rattle.std.specs.Prelude.{◌≡◌, ◌<◌, ◌&&◌, Option, Some, None, slice_index_or}
use Rattle.integers.specs.Kit.{Bool, cond, not, List, ℕ, zero, suc, length, ltb, leb}

-- the lowest index below n at which the test passes, and n where there is none
unfoldable pub first : ℕ → (ℕ → Bool) → ℕ
first zero f = zero
first (suc n) f = cond (f zero) zero (suc (first n (λ k. f (suc k))))

-- the test passes at some index below n
abbrev pub any : ℕ → (ℕ → Bool) → Bool
any n f = ltb (first n f) n

-- the lowest such index, if there is one
abbrev pub found : ℕ → (ℕ → Bool) → Option ℕ
found n f = cond (any n f) (Some (first n f)) None

-- a test in code, whose answers are given by `post`, answers of each item of a list what `passes` says of its index
pub record Tests {A : Type 0} (post : A → Bool → Type 0) (l : List A) (passes : ℕ → Bool) : Type 0 where
  pub answers : (i : ℕ) (d : A) (r : Bool) → i < length l → post (slice_index_or l i d) r → r ≡ passes i

-- of the indices from a on and below n, the lowest that no other one of them comes before; `before q p` says that q comes before p
unfoldable pub foremost : ℕ → ℕ → (ℕ → ℕ → Bool) → ℕ
foremost a n before = first n (λ p. leb a p && not (any n (λ q. leb a q && before q p)))
