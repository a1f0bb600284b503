-- What a call returns (01, "Why a set or sheet is turned back", and 02, which adds numbers): a number, which is 0 for an accepted call, and a place.
use Rattle.std.specs.Prelude.{◌≡◌, ◌∷◌, ◌+◌, ◌<◌, Result, Ok, Err}
use Rattle.integers.specs.Kit.{Bool, true, false, cond, List, [], ℕ, T, ltb, eqb}
use Rattle.integers.specs.Search.{first}
use Rattle.answers.specs.declared.Refusal.{Refusal}
use Rattle.answers.specs.declared.Refusal.TheVariants.{Lengths, Sample, Width, Magnitudes, NoBlock, Head, Words, End, Orientation, Step, Coefficient}

pub record Returned : Type 0 where
  pub number : ℕ
  pub place : ℕ

-- the papers' number and place for each refusal; no two answers have both the same (`only_answer`), so that a contract that fixes them fixes the answer
abbrev pub refused : Refusal → Returned
refused Lengths = record { number = 1; place = 0 }
refused (Sample i) = record { number = 2; place = i }
refused Width = record { number = 3; place = 0 }
refused (Magnitudes p) = record { number = 4; place = p }
refused NoBlock = record { number = 5; place = 0 }
refused (Head p) = record { number = 6; place = p }
refused (Words n) = record { number = 7; place = n }
refused (End i) = record { number = 8; place = i }
refused Orientation = record { number = 9; place = 0 }
refused (Step k) = record { number = 10; place = k }
refused (Coefficient p) = record { number = 11; place = p }

-- "An accepted call returns 0 and place 0, a sheet 0 and the words written"

abbrev pub accept_with : ℕ → Returned
accept_with n = record { number = 0; place = n }

abbrev pub accept : Returned
accept = accept_with 0

-- what is returned for a job's result: of an accepted call 0 and the place that is read from what it gives, of a refused one the refusal's number and place
abbrev pub returned_with : {A : Type 0} → (A → ℕ) → Result A Refusal → Returned
returned_with place (Ok x) = accept_with (place x)
returned_with place (Err e) = refused e

-- with place 0, which is every job's but sheet's and compose_orientations'
abbrev pub returned : {A : Type 0} → Result A Refusal → Returned
returned = returned_with (λ _. 0)

-- the causes of a refusal, in the order in which a job asks for them

pub data Cause : Type 0 where
  -- what is returned where the test fails
  test : Bool → Returned → Cause
  -- what is returned where an index below the size is faulty, for the lowest such index
  search : ℕ → (ℕ → Bool) → (ℕ → Returned) → Cause

-- cause n at place p where the test fails
abbrev pub unless_at : ℕ → Bool → ℕ → Cause
unless_at p passes n = test passes (record { number = n; place = p })

-- cause n at place 0 where the test fails
abbrev pub unless : Bool → ℕ → Cause
unless = unless_at 0

-- cause 1: a buffer has another length than the job asks for
abbrev pub sized : ℕ → ℕ → Cause
sized given asked = unless (eqb given asked) 1

-- cause n at the lowest of the indices below `size` that is faulty
abbrev pub lowest : ℕ → (ℕ → Bool) → ℕ → Cause
lowest size faulty n = search size faulty (λ i. record { number = n; place = i })

-- what a call returns: the first cause that holds, and `end` where none does
unfoldable pub answered : List Cause → Returned → Returned
answered [] end = end
answered (test passes refusal ∷ l) end = cond passes (answered l end) refusal
answered (search size faulty refusal ∷ l) end = cond (ltb (first size faulty) size) (refusal (first size faulty)) (answered l end)

-- the call is accepted
abbrev pub accepted : Returned → Bool
accepted r = eqb r.number 0

-- the same causes, with m added to the place that each names

abbrev pub moved : ℕ → Returned → Returned
moved m r = record { number = r.number; place = m + r.place }

abbrev pub moved_cause : ℕ → Cause → Cause
moved_cause m (test passes refusal) = test passes (moved m refusal)
moved_cause m (search size faulty refusal) = search size faulty (λ i. moved m (refusal i))

abbrev pub moved_causes : ℕ → List Cause → List Cause
moved_causes m [] = []
moved_causes m (c ∷ l) = moved_cause m c ∷ moved_causes m l

-- why a call returns what it does, for the theorems: `some_reason` gives each call a reason, `only_reason` says that no other answer has one, and
-- `excludes` that no cause both holds and does not

-- a cause does not hold
abbrev pub Passes : Cause → Type 0
Passes (test passes refusal) = T passes
Passes (search size faulty refusal) = (i : ℕ) → i < size → faulty i ≡ false

-- a cause holds, and is named by r
pub data Names : Cause → Returned → Type 0 where
  fails : {passes : Bool} {refusal : Returned} → passes ≡ false → Names (test passes refusal) refusal
  faulty_at : {size : ℕ} {faulty : ℕ → Bool} {refusal : ℕ → Returned} (i : ℕ) → i < size → ((j : ℕ) → j < i → faulty j ≡ false) → faulty i ≡ true
      → Names (search size faulty refusal) (refusal i)

-- the first cause that holds names r, and those before it do not hold; or none holds, and r is `end`
pub data Reason (end : Returned) : List Cause → Returned → Type 0 where
  holds : {c : Cause} {l : List Cause} {r : Returned} → Names c r → Reason end (c ∷ l) r
  passes : {c : Cause} {l : List Cause} {r : Returned} → Passes c → Reason end l r → Reason end (c ∷ l) r
  none_holds : Reason end [] end

-- each of the causes has the property P
abbrev pub Each : (Cause → Type 0) → List Cause → Type 0
Each P [] = Unit {0}
Each P (c ∷ l) = P c × Each P l

-- the number of a refusal is not 0
abbrev pub Numbered : Cause → Type 0
Numbered (test t refusal) = 0 < refusal.number
Numbered (search size faulty refusal) = (i : ℕ) → faulty i ≡ true → 0 < (refusal i).number
