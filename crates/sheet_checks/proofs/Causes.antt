-- The causes of a sheet as a whole, for a job that asks for no others: which sheets pass, and each way out of `check_sheet`.
use Rattle.std.specs.Prelude.{◌≡◌, ◌∷◌}
use Rattle.integers.specs.Kit.{false, List, [], ℕ, T, eqb, lit<, length}
use Rattle.answers.specs.declared.Refusal.{Refusal}
use Rattle.answers.specs.Answer.{Returned, Each, Passes, Reason, holds, passes, none_holds, accept_with, accepted, answered, refused}
use Rattle.answers.proofs.Causes.{excludes, accepted_first, accepted_means, refused_first}
use Rattle.sheet_checks.specs.declared.Format.{Format}
use Rattle.sheet_checks.specs.Check.{blocks, size_of, has_head, shape, contents, check_causes}
use Rattle.sheet_checks.specs.Sheets.{ValidShape, ValidSheet, WordFault}
use Rattle.sheet_checks.proofs.Faults.{cause_named}
use Rattle.sheet_checks.proofs.Sheets as sheets
use Rattle.sheet_checks.proofs.Sheets.{shape_passes, contents_pass, in_words}

module _ (f : Format) (words : List ℕ) where
  pub sheet_passes : ValidSheet f words → Each Passes (check_causes f words)
  sheet_passes S = let (h, (c, rest)) = shape_passes f words S.valid_shape in (h, (c, (contents_pass f words S, tt)))

  pub valid_sheet : (end : Returned) → T (accepted (answered (check_causes f words) end)) → ValidSheet f words
  valid_sheet end a =
      let (h, (c, (none, rest))) = accepted_means (check_causes f words) end (lit< tt, (lit< tt, ((λ i t. cause_named f words i), tt))) a in
      sheets.valid_sheet f words (sheets.valid_shape f words h c) none

  -- where the shape is right, a refusal names the first faulty word, and its fault
  pub refused_by_word : ValidShape f words → {end r : Returned} → T (accepted end) → Reason end (check_causes f words) r → accepted r ≡ false → WordFault f words r
  refused_by_word S a R h = let (p, (q, rest)) = shape_passes f words S in go p q a R h
    where
      go : T (has_head f.head words) → T (eqb (length words) (size_of (blocks words))) → {end r : Returned} → T (accepted end)
          → Reason end (check_causes f words) r → accepted r ≡ false → WordFault f words r
      go p q a (holds n) h = absurd (excludes n p)
      go p q a (passes _ (holds n)) h = absurd (excludes n q)
      go p q a (passes _ (passes _ (holds n))) h = in_words f words n
      go p q a (passes _ (passes _ (passes _ none_holds))) h = absurd (rw h at a)

  -- where the shape is refused, so is the sheet; and where not, the words decide

  pub shape_refused : (e : Refusal) (n : ℕ) (end : Returned) → refused e ≡ answered (shape f words) (accept_with n) → refused e ≡ answered (check_causes f words) end
  shape_refused e n end h = refused_first (shape f words) (contents f words ∷ []) end e n h

  module _ (m n : ℕ) (h : accept_with m ≡ answered (shape f words) (accept_with n)) where
    pub shaped : ValidShape f words
    shaped =
        let (head, (count, rest)) = accepted_means (shape f words) (accept_with n) (lit< tt, (lit< tt, tt)) (rw (← h) tt) in
        sheets.valid_shape f words head count

    pub words_decide : (end : Returned) {r : Returned} → r ≡ answered (contents f words ∷ []) end → r ≡ answered (check_causes f words) end
    words_decide end {r} d = accepted_first (shape f words) (contents f words ∷ []) end r (lit< tt, (lit< tt, tt)) m n h d
