-- A sheet passes the check exactly when it is a valid sheet as 01 describes it; and a word is refused exactly for one of the faults that 01 names.
use Rattle.std.specs.Prelude.{◌≡◌, ◌∷◌, ◌-◌, ◌≤◌, ◌<◌}
use Rattle.integers.specs.Kit.{sym, ap, subst, ◌∙◌, true, false, not, List, [], ℕ, zero, suc, T, eqb, nat_abs, length}
use native.Mathlib.Nat.{mul-pos}
use native.Mathlib.Decide.{ℕ_discrete}
use native.Mathlib.Omega.{arith}
use lib.Dec.{eqb→eq}
use borrow.Author.Tests.{eq-eqb, ne_eqb}
use Rattle.integers.proofs.Ranges.{within_limit}
use Rattle.limits.specs.Limits.{coefficient_limit}
use Rattle.words.specs.Word.{end_kind, kind, payload, value}
use Rattle.answers.specs.Answer.{Returned, Passes, Names, faulty_at, Each, Reason, holds, passes, none_holds, accept_with, accepted}
use Rattle.sheet_checks.specs.declared.Format.{Format}
use Rattle.sheet_checks.specs.Check.{coefficient_format, word_at, blocks, size_of, has_head, shape, body_faulty, end_faulty, faulty, cause_at, contents}
use Rattle.sheet_checks.specs.Sheets as sheets
use Rattle.sheet_checks.specs.Sheets.{ValidShape, ValidSheet, WordFault}
use Rattle.sheet_checks.proofs.Faults.{other_kind, of_kind, no_end, of_end_kind, head_right, at_body, at-end}
use Rattle.sheet_checks.proofs.Heads.{head_means, means_head}

-- the blocks of a valid sheet
pub some_blocks : {f : Format} {words : List ℕ} → ValidShape f words → 0 < blocks words
some_blocks S = mul-pos S.some_across S.some_down

module _ (f : Format) (words : List ℕ) where
  -- the shape

  pub valid_shape : T (has_head f.head words) → T (eqb (length words) (size_of (blocks words))) → ValidShape f words
  valid_shape h c =
      let (some, k, a, d, few) = head_means f.head words h in
      record { some_words = some; head_kind = k; some_across = a; some_down = omega (arith, d); few_blocks = few; count = eqb→eq (length words) (size_of (blocks words)) c }

  pub shape_passes : ValidShape f words → Each Passes (shape f words)
  shape_passes S = (
    means_head f.head words S.some_words S.head_kind S.some_across S.some_down S.few_blocks,
    (rw (eq-eqb (length words) (size_of (blocks words)) S.count) tt, tt),
  )

  -- the words

  abbrev last : ℕ
  last = length words - 1

  pub contents_pass : ValidSheet f words → Passes (contents f words)
  contents_pass S i h = go i h (ℕ_discrete i 0) (ℕ_discrete (suc i) (length words))
    where
      go : (i : ℕ) → i < length words → Dec (i ≡ 0) → Dec (suc i ≡ length words) → faulty f words i ≡ false
      go i h (yes z) t = rw z (head_right f words)
      go i h (no z) (yes e) =
          let at : i ≡ last = omega arith in
          (at-end f words i (omega arith) e).0
          ∙ rw at ((of_end_kind (word_at words last) S.end_kind).0 (blocks words) ∙ ap not (eq-eqb _ (blocks words) S.end_count))
      go i h (no z) (no t) =
          let p : 0 < i = omega arith in
          let q : suc i < length words = omega arith in
          (at_body f words i p q).0 ∙ (of_kind f (word_at words i) (S.body_kind i p q)).0 ∙ S.body_range i p q

  module _ (S : ValidShape f words) (passes : Passes (contents f words)) where
    body_right : (i : ℕ) → 0 < i → suc i < length words → body_faulty f (word_at words i) ≡ false
    body_right i p q = sym (at_body f words i p q).0 ∙ passes i (omega arith)

    body_kind : (i : ℕ) → 0 < i → suc i < length words → kind (word_at words i) ≡ f.body
    body_kind i p q = go (ℕ_discrete (kind (word_at words i)) f.body)
      where
        go : Dec (kind (word_at words i) ≡ f.body) → kind (word_at words i) ≡ f.body
        go (yes e) = e
        go (no n) = absurd (subst T (sym (other_kind f (word_at words i) n).0 ∙ body_right i p q) tt)

    end_right : end_faulty (blocks words) (word_at words last) ≡ false
    end_right =
        let more = some_blocks S in
        sym (at-end f words last (omega (arith, S.count)) (omega (arith, S.count))).0 ∙ passes last (omega (arith, S.count))

    end_means : (kind (word_at words last) ≡ end_kind) × (payload (word_at words last) ≡ blocks words)
    end_means = go (ℕ_discrete (kind (word_at words last)) end_kind) (ℕ_discrete (payload (word_at words last)) (blocks words))
      where
        go : Dec (kind (word_at words last) ≡ end_kind) → Dec (payload (word_at words last) ≡ blocks words)
            → (kind (word_at words last) ≡ end_kind) × (payload (word_at words last) ≡ blocks words)
        go (yes k) (yes p) = (k, p)
        go (yes k) (no p) =
            let wrong = ap not (ne_eqb (payload (word_at words last)) (blocks words) p) in
            absurd (subst T (sym wrong ∙ sym ((of_end_kind (word_at words last) k).0 (blocks words)) ∙ end_right) tt)
        go (no k) p = absurd (subst T (sym ((no_end (word_at words last) k).0 (blocks words)) ∙ end_right) tt)

    pub valid_sheet : ValidSheet f words
    valid_sheet = record {
      valid_shape = S;
      body_kind = body_kind;
      body_range = λ i p q. sym (of_kind f (word_at words i) (body_kind i p q)).0 ∙ body_right i p q;
      end_kind = end_means.0;
      end_count = end_means.1;
    }

  -- the fault of the first faulty word

  pub in_words : {r : Returned} → Names (contents f words) r → WordFault f words r
  in_words (faulty_at zero h before t) = absurd (subst T (sym t ∙ head_right f words) tt)
  in_words (faulty_at (suc i) h before t) = go (ℕ_discrete (suc (suc i)) (length words))
    where
      w : ℕ
      w = word_at words (suc i)

      first : sheets.First f words (suc i)
      first = (omega arith, before)

      body : suc (suc i) < length words → Dec (kind w ≡ f.body) → WordFault f words (record { number = cause_at f words (suc i); place = suc i })
      body l (no k) = rw ((at_body f words (suc i) (omega arith) l).1 ∙ (other_kind f w k).1) (sheets.other_kind (suc i) first l k)
      body l (yes k) =
          let (fault, cause) = at_body f words (suc i) (omega arith) l in
          rw (cause ∙ (of_kind f w k).1) (sheets.other_value (suc i) first l k (sym (of_kind f w k).0 ∙ sym fault ∙ t))

      end : suc (suc i) ≡ length words → Dec (kind w ≡ end_kind) → WordFault f words (record { number = cause_at f words (suc i); place = suc i })
      end l (no k) = rw ((at-end f words (suc i) (omega arith) l).1 ∙ (no_end w k).1) (sheets.no_end (suc i) first l k)
      end l (yes k) =
          let (fault, cause) = at-end f words (suc i) (omega arith) l in
          let wrong : payload w ≡ blocks words → ⊥ = λ p. subst T (sym t ∙ fault ∙ (of_end_kind w k).0 (blocks words) ∙ ap not (eq-eqb (payload w) (blocks words) p)) tt in
          rw (cause ∙ (of_end_kind w k).1) (sheets.wrong_end (suc i) first l k wrong)

      go : Dec (suc (suc i) ≡ length words) → WordFault f words (record { number = cause_at f words (suc i); place = suc i })
      go (yes e) = end e (ℕ_discrete (kind w) end_kind)
      go (no e) = body (omega arith) (ℕ_discrete (kind w) f.body)

  pub refused-word : {r : Returned} → Reason (accept_with (length words)) (contents f words ∷ []) r → accepted r ≡ false → WordFault f words r
  refused-word (holds n) h = in_words n
  refused-word (passes p none_holds) h = absurd (subst T h tt)

  -- and a word that has one of these faults is refused by it

  named : (i : ℕ) {n : ℕ} → sheets.First f words i → i < length words → faulty f words i ≡ true → cause_at f words i ≡ n → Names (contents f words) (record { number = n; place = i })
  named i (p, before) l t c = rw (← c) (faulty_at i l before t)

  pub by_words : {r : Returned} → WordFault f words r → Names (contents f words) r
  by_words (sheets.other_kind i F l k) =
      let (fault, cause) = at_body f words i F.0 l in
      let (is, number) = other_kind f (word_at words i) k in
      named i F (omega arith) (fault ∙ is) (cause ∙ number)
  by_words (sheets.other_value i F l k out) =
      let (fault, cause) = at_body f words i F.0 l in
      let (is, number) = of_kind f (word_at words i) k in
      named i F (omega arith) (fault ∙ is ∙ out) (cause ∙ number)
  by_words (sheets.no_end i F l k) =
      let (fault, cause) = at-end f words i F.0 l in
      let (is, number) = no_end (word_at words i) k in
      named i F (omega arith) (fault ∙ is (blocks words)) (cause ∙ number)
  by_words (sheets.wrong_end i F l k p) =
      let (fault, cause) = at-end f words i F.0 l in
      let (is, number) = of_end_kind (word_at words i) k in
      named i F (omega arith) (fault ∙ is (blocks words) ∙ ap not (ne_eqb _ (blocks words) p)) (cause ∙ number)

-- the coefficients of a coefficient sheet are within their limit
pub coefficients_in_limit : {words : List ℕ} → ValidSheet coefficient_format words → (i : ℕ) → 0 < i → suc i < length words
    → nat_abs (value (payload (word_at words i))) ≤ coefficient_limit
coefficients_in_limit {words} S i p q = within_limit coefficient_limit (value (payload (word_at words i))) (S.body_range i p q)
