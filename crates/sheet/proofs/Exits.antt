-- The ways out of the check of a sheet job: each refuses by its cause, or leaves it to the next.
use Rattle.std.specs.Prelude.{◌≡◌, ◌∷◌, ◌≤◌, ◌<◌}
use Rattle.integers.specs.Kit.{sym, ◌∙◌, false, List, [], ℕ, T, leb, lit<, length}
use borrow.Author.Tests.{lt-leb}
use Rattle.answers.specs.declared.Refusal.{Refusal}
use Rattle.answers.specs.Answer.{Returned, Cause, holds, fails, accept, accept_with, answered, refused, sized, unless}
use Rattle.answers.proofs.Causes.{accepted_first, no_more, only_reason, passes_on, refused_first, sized_accepted, sized_refused}
use Rattle.coefficients.specs.Tables.{width}
use Rattle.sheet_checks.specs.Check.{sample_format, shape, contents}
use Rattle.sheet_checks.proofs.Faults.{cause_named}
use Rattle.sheet.specs.Sheet.{sheet_causes}
use Rattle.sheet.proofs.Causes.{roomy}

-- the ways out of the check, each at any answer for an accepted call
module _ (size : ℕ) (words : List ℕ) (b s o : ℕ) (end : Returned) where
  abbrev Answered : Returned → Type 0
  Answered r = r ≡ answered (sheet_causes size words b s o) end

  -- the causes past the shape
  abbrev past_shape : List Cause
  past_shape = sized s size ∷ unless (leb (length words) o) 1 ∷ contents sample_format words ∷ []

  pub no_width : width b ≡ false → Answered (record { number = 3; place = 0 })
  no_width n = only_reason (holds (fails n))

  module _ (w : T (width b)) where
    pub wrong_shape : (e : Refusal) (n : ℕ) → refused e ≡ answered (shape sample_format words) (accept_with n) → Answered (refused e)
    wrong_shape e n h = refused_first (shape sample_format words) past_shape end e n h ∙ sym (passes_on _ _ end w)

    module _ (m n : ℕ) (h : accept_with m ≡ answered (shape sample_format words) (accept_with n)) where
      past : {r : Returned} → r ≡ answered past_shape end → Answered r
      past {r} g = accepted_first (shape sample_format words) past_shape end r (lit< tt, (lit< tt, tt)) m n h g ∙ sym (passes_on _ _ end w)

      pub wrong_scratch : (e : Refusal) → refused e ≡ answered (sized s size ∷ []) accept → Answered (refused e)
      wrong_scratch e g = past (sized_refused s size _ end e g)

      module _ (g : accept ≡ answered (sized s size ∷ []) accept) where
        pub no_room : o < length words → Answered (record { number = 1; place = 0 })
        no_room l = past (sized_accepted s size _ end _ g (only_reason (holds (fails (lt-leb (length words) o l)))))

        module _ (l : length words ≤ o) where
          roomed : {r : Returned} → r ≡ answered (contents sample_format words ∷ []) end → Answered r
          roomed k = past (sized_accepted s size _ end _ g (k ∙ sym (passes_on _ _ end (roomy l))))

          pub wrong_words : (e : Refusal) (p : ℕ) → refused e ≡ answered (contents sample_format words ∷ []) (accept_with p) → Answered (refused e)
          wrong_words e p k = roomed (refused_first (contents sample_format words ∷ []) [] end e p k)

          pub accepted : (p q : ℕ) → accept_with p ≡ answered (contents sample_format words ∷ []) (accept_with q) → Answered end
          accepted p q k = roomed (accepted_first (contents sample_format words ∷ []) [] end end ((λ i t. cause_named sample_format words i), tt) p q k (no_more end))
