-- The words of a sheet: the fault of each by the code's tests, and the search for the first faulty one.
use Rattle.std.specs.Prelude.{◌≡◌, ◌∷◌, ◌+◌, ◌-◌, ◌≤◌, ◌<◌, Some, None, slice_range}
use Rattle.integers.specs.Kit.{refl, sym, ap, ◌∙◌, Bool, true, false, cond, not, List, [], ℕ, zero, suc, eqb, ℤ, drop, length}
use native.Mathlib.Decide.{dec_lt}
use native.Mathlib.Omega.{arith}
use lib.ListN.{length-drop, length-take}
use Rattle.std.proofs.Common.{get_or-drop, get_or-take}
use mir.Syntax.{w32}
use mir.Val.{SFits}
use borrow.Author.Tests.{eq-eqb, ne_eqb, lt-ltb}
use Rattle.integers.specs.Search.{found}
use Rattle.integers.proofs.Signed.{in32, read_i32}
use Rattle.words.specs.Word.{end_kind, kind, payload, value}
use Rattle.answers.specs.Answer.{Returned, Names, accept, answered, faulty_at, holds, none_holds, passes, search}
use Rattle.answers.proofs.Causes.{found_names, found_passes, only_reason}
use Rattle.sheet_checks.specs.declared.Format.{Format}
use Rattle.sheet_checks.specs.declared.Values.{Values}
use Rattle.sheet_checks.specs.declared.Values.TheVariants.{Samples, Coefficients}
use Rattle.sheet_checks.specs.Check.{out_of_range, outside_format, word_at, blocks, body_faulty, body_cause, end_faulty, end_cause, faulty, cause_at, contents}

-- a refusal has a number
pub value_named : (v : Values) → 0 < out_of_range v
value_named Samples = omega arith
value_named Coefficients = omega arith

module _ (f : Format) (w : ℕ) where
  pub other_kind : (kind w ≡ f.body → ⊥) → (body_faulty f w ≡ true) × (body_cause f w ≡ 7)
  unfolding body_faulty body_cause
  other_kind n = rw (ne_eqb (kind w) f.body n) (refl, refl)

  pub of_kind : kind w ≡ f.body → (body_faulty f w ≡ outside_format f (value (payload w))) × (body_cause f w ≡ out_of_range f.values)
  unfolding body_faulty body_cause
  of_kind e = rw (eq-eqb (kind w) f.body e) (refl, refl)

  -- its value z, and the answer to it, as they are read from their bits
  pub read_asked : kind w ≡ f.body → {z : ℤ} → z ≡ value (payload w) → SFits w32 z → {out : Bool} → out ≡ outside_format f (in32 z) → out ≡ body_faulty f w
  read_asked e {z} v fits o = o ∙ ap (outside_format f) (read_i32 z fits ∙ v) ∙ sym (of_kind e).0

-- the end word

module _ (w : ℕ) where
  pub no_end : (kind w ≡ end_kind → ⊥) → ((n : ℕ) → end_faulty n w ≡ true) × (end_cause w ≡ 7)
  unfolding end_faulty end_cause
  no_end h = rw (ne_eqb (kind w) end_kind h) ((λ n. refl), refl)

  pub of_end_kind : kind w ≡ end_kind → ((n : ℕ) → end_faulty n w ≡ not (eqb (payload w) n)) × (end_cause w ≡ 8)
  unfolding end_faulty end_cause
  of_end_kind e = rw (eq-eqb (kind w) end_kind e) ((λ n. refl), refl)

module _ (f : Format) (words : List ℕ) where
  -- what is asked at an index

  pub head_right : faulty f words 0 ≡ false
  unfolding faulty
  head_right = refl

  pub at_body : (i : ℕ) → 0 < i → suc i < length words → (faulty f words i ≡ body_faulty f (word_at words i)) × (cause_at f words i ≡ body_cause f (word_at words i))
  unfolding faulty cause_at
  at_body i h l = rw (lt-ltb 0 i h, ne_eqb (suc i) (length words) (λ e. omega arith)) (refl, refl)

  pub at-end : (i : ℕ) → 0 < i → suc i ≡ length words → (faulty f words i ≡ end_faulty (blocks words) (word_at words i)) × (cause_at f words i ≡ end_cause (word_at words i))
  unfolding faulty cause_at
  at-end i h l = rw (lt-ltb 0 i h, eq-eqb (suc i) (length words) l) (refl, refl)

  -- a cause has a number
  pub cause_named : (i : ℕ) → 0 < cause_at f words i
  unfolding cause_at end_cause body_cause
  cause_named i = go (eqb (suc i) (length words)) (eqb (kind (word_at words i)) end_kind) (eqb (kind (word_at words i)) f.body)
    where
      go : (s t u : Bool) → 0 < cond s (cond t 8 7) (cond u (out_of_range f.values) 7)
      go true true u = omega arith
      go true false u = omega arith
      go false t true = value_named f.values
      go false t false = omega arith

  -- word i, before which none is faulty, is refused where it is
  ends : (i : ℕ) → i < length words → ((j : ℕ) → j < i → faulty f words j ≡ false) → faulty f words i ≡ true → {r : Returned}
      → r ≡ record { number = cause_at f words i; place = i } → r ≡ answered (contents f words ∷ []) accept
  ends i l before t e = e ∙ only_reason {l = contents f words ∷ []} (holds (faulty_at i l before t))

  -- the search in the body, which has all words but the first and the last

  abbrev pub body : List ℕ
  body = slice_range words 1 (length words - 1)

  abbrev pub in_body : ℕ → Bool
  in_body i = body_faulty f (word_at body i)

  module _ (some : 1 < length words) where
    size : length body ≡ length words - 2
    size = length-take (length words - 1 - 1) (drop 1 words) ∙ omega (arith, length-drop 1 words)

    same : (i : ℕ) → i < length body → word_at body i ≡ word_at words (suc i)
    same i h = get_or-take (length words - 1 - 1) (drop 1 words) i 0 (omega (arith, size)) ∙ get_or-drop 1 words i 0 ∙ ap (word_at words) (omega arith)

    passed : (k : ℕ) → k ≤ length body → ((j : ℕ) → j < k → in_body j ≡ false) → (i : ℕ) → i < suc k → faulty f words i ≡ false
    passed k h before zero b = head_right
    passed k h before (suc i) b = (at_body (suc i) (omega arith) (omega (arith, size))).0 ∙ ap (body_faulty f) (sym (same i (omega arith))) ∙ before i (omega arith)

    -- it finds the first faulty word
    pub found_in_body : {k : ℕ} → Some k ≡ found (length body) in_body → {r : Returned} → r ≡ record { number = body_cause f (word_at words (1 + k)); place = 1 + k }
        → r ≡ answered (contents f words ∷ []) accept
    found_in_body {k} e g =
        let (h, before, t) = means (found_names (length body) in_body (λ i. record { number = 0; place = i }) e) in
        let index : 1 + k ≡ suc k = omega arith in
        let (fault, cause) = at_body (suc k) (omega arith) (omega (arith, size)) in
        ends (suc k) (omega (arith, size)) (passed k (omega arith) before) (fault ∙ ap (body_faulty f) (sym (same k h)) ∙ t) (g ∙ rw (index, cause) refl)
      where
        means : {r : Returned} → Names (search (length body) in_body (λ i. record { number = 0; place = i })) r
            → (r.place < length body) × ((j : ℕ) → j < r.place → in_body j ≡ false) × (in_body r.place ≡ true)
        means (faulty_at i h before t) = (h, before, t)

    -- it finds none: then the end word decides
    pub none_in_body : None ≡ found (length body) in_body → {i : ℕ} → suc i ≡ length words → {r : Returned}
        → r ≡ cond (end_faulty (blocks words) (word_at words i)) (record { number = end_cause (word_at words i); place = i }) accept
        → r ≡ answered (contents f words ∷ []) accept
    none_in_body e {i} m {r} g = go (end_faulty (blocks words) (word_at words i)) (at-end i (omega arith) m) g
      where
        before : (j : ℕ) → j < i → faulty f words j ≡ false
        before j h = passed (length body) (omega arith) (found_passes (length body) in_body e) j (omega (arith, size))

        go : (t : Bool) → (faulty f words i ≡ t) × (cause_at f words i ≡ end_cause (word_at words i))
            → r ≡ cond t (record { number = end_cause (word_at words i); place = i }) accept → r ≡ answered (contents f words ∷ []) accept
        go true (fault, cause) g = ends i (omega arith) before fault (g ∙ rw cause refl)
        go false (fault, cause) g = g ∙ only_reason {l = contents f words ∷ []} (passes (λ j h. every j (dec_lt j i) h) none_holds)
          where
            every : (j : ℕ) → Dec (j < i) → j < length words → faulty f words j ≡ false
            every j (yes b) h = before j b
            every j (no b) h = let is : j ≡ i = omega arith in rw is fault
