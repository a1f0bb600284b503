-- The papers' number and place tell every answer from every other.
use Rattle.std.specs.Prelude.{◌≡◌, ◌∷◌, Result, Ok, Err}
use Rattle.integers.specs.Kit.{refl, sym, ap, ◌∙◌, cond, List, [], ℕ, eqb, get_or}
use Rattle.answers.specs.declared.Refusal.{Refusal}
use Rattle.answers.specs.declared.Refusal.TheVariants.{Lengths, Sample, Width, Magnitudes, NoBlock, Head, Words, End, Orientation, Step, Coefficient}
use Rattle.answers.specs.Answer.{Returned, returned_with}

-- the answer that has a number, with the place where it carries one; none where no answer has the number
abbrev answers_of : Returned → List (Result ℕ Refusal)
answers_of r =
    cond (eqb r.number 0) (Ok r.place ∷ [])
    (cond (eqb r.number 1) (Err Lengths ∷ [])
    (cond (eqb r.number 2) (Err (Sample r.place) ∷ [])
    (cond (eqb r.number 3) (Err Width ∷ [])
    (cond (eqb r.number 4) (Err (Magnitudes r.place) ∷ [])
    (cond (eqb r.number 5) (Err NoBlock ∷ [])
    (cond (eqb r.number 6) (Err (Head r.place) ∷ [])
    (cond (eqb r.number 7) (Err (Words r.place) ∷ [])
    (cond (eqb r.number 8) (Err (End r.place) ∷ [])
    (cond (eqb r.number 9) (Err Orientation ∷ [])
    (cond (eqb r.number 10) (Err (Step r.place) ∷ [])
    (cond (eqb r.number 11) (Err (Coefficient r.place) ∷ [])
    [])))))))))))

there_and_back : (a : Result ℕ Refusal) → answers_of (returned_with (λ n. n) a) ≡ a ∷ []
there_and_back (Ok n) = refl
there_and_back (Err Lengths) = refl
there_and_back (Err (Sample i)) = refl
there_and_back (Err Width) = refl
there_and_back (Err (Magnitudes p)) = refl
there_and_back (Err NoBlock) = refl
there_and_back (Err (Head p)) = refl
there_and_back (Err (Words n)) = refl
there_and_back (Err (End i)) = refl
there_and_back (Err Orientation) = refl
there_and_back (Err (Step k)) = refl
there_and_back (Err (Coefficient p)) = refl

pub only_answer : (a b : Result ℕ Refusal) → returned_with (λ n. n) a ≡ returned_with (λ n. n) b → a ≡ b
only_answer a b e = ap (λ (l : List (Result ℕ Refusal)). get_or l 0 a) (sym (there_and_back a) ∙ ap answers_of e ∙ there_and_back b)
