-- The causes of a refusal, for every list of them: what is returned has a reason, and no other answer has one; it is an acceptance exactly when no cause
-- holds.
use Rattle.std.specs.Prelude.{◌≡◌, ◌∷◌, ◌++◌, ◌≤◌, ◌<◌, Some, None}
use Rattle.integers.specs.Kit.{refl, sym, subst, ◌∙◌, Bool, true, false, cond, List, [], ℕ, lit<, T, eqb, ltb}
use native.Mathlib.Nat.{le_refl, le_of_lt, lt_of_lt_of_le}
use native.Mathlib.Omega.{arith}
use lib.Dec.{eqb→eq}
use borrow.Author.Tests.{eq-eqb, ne_eqb, lt-ltb, le-ltb, ltb-true, ltb-false}
use Rattle.integers.specs.Search.{any, first, found}
use Rattle.integers.proofs.Search.{first_none, before_first, at_first, first-at, any_none}
use Rattle.integers.proofs.Tests as tests
use Rattle.answers.specs.declared.Refusal.{Refusal}
use Rattle.answers.specs.declared.Refusal.TheVariants.{Lengths, Sample, Width, Magnitudes, NoBlock, Head, Words, End, Orientation, Step, Coefficient}
use Rattle.answers.specs.Answer.{Returned, Cause, test, search, sized, answered, accept, accept_with, accepted, refused, moved, moved_cause, moved_causes}
use Rattle.answers.specs.Answer.{Passes, Names, fails, faulty_at, Reason, holds, passes, none_holds, Each, Numbered}

-- what a search of the code answers

module _ (size : ℕ) (faulty : ℕ → Bool) where
  at_lowest : {i : ℕ} → i ≡ first size faulty → {refusal : ℕ → Returned} → i < size → Names (search size faulty refusal) (refusal i)
  at_lowest {i} f h = faulty_at i h (λ j l. before_first size faulty j (omega (arith, f, l))) (rw (← f) at (at_first size faulty (rw f at h)))

  past_all : {i : ℕ} → i ≡ first size faulty → size ≤ i → (j : ℕ) → j < size → faulty j ≡ false
  past_all f h j l = before_first size faulty j (rw (← f) (lt_of_lt_of_le l h))

  pub found_names : (refusal : ℕ → Returned) {i : ℕ} → Some i ≡ found size faulty → Names (search size faulty refusal) (refusal i)
  found_names refusal {i} h = go (any size faulty) refl h
    where
      go : (t : Bool) → any size faulty ≡ t → Some i ≡ cond t (Some (first size faulty)) None → Names (search size faulty refusal) (refusal i)
      go true e g = let is : i ≡ first size faulty = cc in at_lowest is (rw is (ltb-true (first size faulty) size e))
      go false e g = absurd (cc)

  pub found_passes : None ≡ found size faulty → (j : ℕ) → j < size → faulty j ≡ false
  found_passes h = go (any size faulty) refl h
    where
      go : (t : Bool) → any size faulty ≡ t → None ≡ cond t (Some (first size faulty)) None → (j : ℕ) → j < size → faulty j ≡ false
      go true e g = absurd (cc)
      go false e g = any_none size faulty e

-- one cause

pub passes_on : (c : Cause) (l : List Cause) (end : Returned) → Passes c → answered (c ∷ l) end ≡ answered l end
unfolding answered
passes_on (test t refusal) l end h = rw (tests.holds t h)
passes_on (search size faulty refusal) l end h = rw (first_none size faulty (record { room = le_refl size; fails = h }), le-ltb size size (le_refl size))

names_it : {c : Cause} {r : Returned} → Names c r → (l : List Cause) (end : Returned) → r ≡ answered (c ∷ l) end
unfolding answered
names_it (fails e) l end = rw e
names_it (faulty_at {size} {faulty} i h before e) l end =
    rw (first-at size faulty i h (record { room = le_of_lt h; fails = before }) e, lt-ltb i size h)

pub excludes : {c : Cause} {r : Returned} → Names c r → Passes c → ⊥
excludes (fails e) h = subst T e h
excludes (faulty_at i l before e) h = subst T (sym e ∙ h i l) tt

-- a call has a reason, and no other answer has one

pub only_reason : {end : Returned} {l : List Cause} {r : Returned} → Reason end l r → r ≡ answered l end
unfolding answered
only_reason {end} (holds {c} {l} n) = names_it n l end
only_reason {end} (passes {c} {l} p R) = only_reason R ∙ sym (passes_on c l end p)
only_reason none_holds = refl

pub some_reason : (l : List Cause) (end : Returned) → Reason end l (answered l end)
unfolding answered
some_reason [] end = none_holds
some_reason (test true refusal ∷ l) end = passes tt (some_reason l end)
some_reason (test false refusal ∷ l) end = holds (fails refl)
some_reason (search size faulty refusal ∷ l) end = go (ltb (first size faulty) size) refl (some_reason l end)
  where
    go : (t : Bool) → ltb (first size faulty) size ≡ t → Reason end l (answered l end)
        → Reason end (search size faulty refusal ∷ l) (cond t (refusal (first size faulty)) (answered l end))
    go true e R = holds (at_lowest size faulty refl (ltb-true (first size faulty) size e))
    go false e R = passes (past_all size faulty refl (ltb-false (first size faulty) size e)) R

-- a call is accepted exactly when no cause holds

pub accepts : (l : List Cause) (end : Returned) → Each Passes l → answered l end ≡ end
unfolding answered
accepts [] end h = refl
accepts (c ∷ l) end (p, h) = passes_on c l end p ∙ accepts l end h

refuses : {c : Cause} {r : Returned} → Numbered c → Names c r → accepted r ≡ false
refuses k (fails {passes} {refusal} e) = ne_eqb refusal.number 0 (λ z. omega arith)
refuses k (faulty_at {size} {faulty} {refusal} i h before e) = let l = k i e in ne_eqb (refusal i).number 0 (λ z. omega arith)

each_passes : {end : Returned} {l : List Cause} {r : Returned} → Reason end l r → Each Numbered l → T (accepted r) → Each Passes l
each_passes (holds n) (k, more) h = absurd (rw (refuses k n) at h)
each_passes (passes p R) (k, more) h = (p, each_passes R more h)
each_passes none_holds more h = tt

pub accepted_means : (l : List Cause) (end : Returned) → Each Numbered l → T (accepted (answered l end)) → Each Passes l
accepted_means l end k h = each_passes (some_reason l end) k h

-- causes after other causes: a job that asks for some by a call

pub refused_before : {e end : Returned} {l : List Cause} (rest : List Cause) {r : Returned} → T (accepted e) → accepted r ≡ false → Reason e l r → Reason end (l ++ rest) r
refused_before rest a h (holds n) = holds n
refused_before rest a h (passes p R) = passes p (refused_before rest a h R)
refused_before rest a h none_holds = absurd (rw h at a)

pub passed_before : {end : Returned} (l : List Cause) {rest : List Cause} {r : Returned} → Each Passes l → Reason end rest r → Reason end (l ++ rest) r
passed_before [] p R = R
passed_before (c ∷ l) (p, more) R = passes p (passed_before l more R)

-- checks in code, one after the other

-- a refusal is no acceptance
pub not_accepted : (e : Refusal) → accepted (refused e) ≡ false
not_accepted Lengths = refl
not_accepted (Sample i) = refl
not_accepted Width = refl
not_accepted (Magnitudes p) = refl
not_accepted NoBlock = refl
not_accepted (Head p) = refl
not_accepted (Words n) = refl
not_accepted (End i) = refl
not_accepted Orientation = refl
not_accepted (Step k) = refl
not_accepted (Coefficient p) = refl

-- the first check refuses: so do both
pub refused_first : (l rest : List Cause) (end : Returned) (e : Refusal) (n : ℕ) → refused e ≡ answered l (accept_with n) → refused e ≡ answered (l ++ rest) end
refused_first l rest end e n h = only_reason (refused_before rest tt (not_accepted e) (subst (Reason (accept_with n) l) (sym h) (some_reason l (accept_with n))))

-- it accepts: then the others decide
pub accepted_first : (l rest : List Cause) (end r : Returned) → Each Numbered l → (m n : ℕ) → accept_with m ≡ answered l (accept_with n) → r ≡ answered rest end
    → r ≡ answered (l ++ rest) end
accepted_first l rest end r k m n h g =
    only_reason (passed_before l (accepted_means l (accept_with n) k (subst (λ x. T (accepted x)) h tt)) (subst (Reason end rest) (sym g) (some_reason rest end)))

-- the check of one length

pub sized_refused : (n m : ℕ) (rest : List Cause) (end : Returned) (e : Refusal) → refused e ≡ answered (sized n m ∷ []) accept → refused e ≡ answered (sized n m ∷ rest) end
sized_refused n m rest end e h = refused_first (sized n m ∷ []) rest end e 0 h

pub sized_accepted : (n m : ℕ) (rest : List Cause) (end r : Returned) → accept ≡ answered (sized n m ∷ []) accept → r ≡ answered rest end → r ≡ answered (sized n m ∷ rest) end
sized_accepted n m rest end r h g = accepted_first (sized n m ∷ []) rest end r (lit< tt, tt) 0 0 h g

-- and then it is the one that the job asks for
pub sized_is : (n m : ℕ) → accept ≡ answered (sized n m ∷ []) accept → n ≡ m
sized_is n m h = eqb→eq n m (accepted_means (sized n m ∷ []) accept (lit< tt, tt) (subst (λ x. T (accepted x)) h tt)).0

-- no check is left
pub no_more : (end : Returned) → end ≡ answered [] end
unfolding answered
no_more end = refl

-- a search in code, which is the last check or comes before others

pub found_refused : (size : ℕ) (faulty : ℕ → Bool) (refusal : ℕ → Returned) (rest : List Cause) (end : Returned) {i : ℕ} → Some i ≡ found size faulty
    → refusal i ≡ answered (search size faulty refusal ∷ rest) end
found_refused size faulty refusal rest end {i} h = only_reason (holds (found_names size faulty refusal h))

pub none_found : (size : ℕ) (faulty : ℕ → Bool) (refusal : ℕ → Returned) (rest : List Cause) (end r : Returned) → None ≡ found size faulty
    → r ≡ answered rest end → r ≡ answered (search size faulty refusal ∷ rest) end
none_found size faulty refusal rest end r h g = only_reason (passes (found_passes size faulty h) (subst (Reason end rest) (sym g) (some_reason rest end)))

-- a buffer of the length that a job asks for, and one of another

pub right_length : {n m : ℕ} → n ≡ m → T (eqb n m)
right_length {n} {m} e = rw (eq-eqb n m e) tt

pub wrong_length : {n m : ℕ} → (n ≡ m → ⊥) → Names (sized n m) (record { number = 1; place = 0 })
wrong_length {n} {m} h = fails (ne_eqb n m h)

-- causes whose places are moved: what is returned is moved, and they hold where the others do

pub answered-moved : (m : ℕ) (l : List Cause) (end : Returned) → answered (moved_causes m l) (moved m end) ≡ moved m (answered l end)
unfolding answered
answered-moved m [] end = refl
answered-moved m (test true refusal ∷ l) end = answered-moved m l end
answered-moved m (test false refusal ∷ l) end = refl
answered-moved m (search size faulty refusal ∷ l) end = go (ltb (first size faulty) size) (answered l end) (answered-moved m l end)
  where
    go : {r : Returned} (t : Bool) (s : Returned) → r ≡ moved m s → cond t (moved m (refusal (first size faulty))) r ≡ moved m (cond t (refusal (first size faulty)) s)
    go true s e = refl
    go false s e = e

pub moved_passes : (m : ℕ) (c : Cause) → Passes (moved_cause m c) ≡ Passes c
moved_passes m (test t refusal) = refl
moved_passes m (search size faulty refusal) = refl
