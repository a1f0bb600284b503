-- What decides whether a block has the elements: forward accepts it, and the 512 numbers agree one by one.
use Rattle.std.specs.Prelude.{◌≡◌, ◌&&◌, ◌+◌, ◌≤◌, ◌<◌, Result, Ok, Err}
use Rattle.std.specs.Result.{is_ok}
use Rattle.integers.specs.Kit.{refl, sym, ap, subst, ◌∙◌, Bool, true, false, not, List, ℕ, T, eqb, ℤ, pos, length, get_or}
use native.Mathlib.Nat.{not-suc-le-zero}
use native.Mathlib.Decide.{ℕ_discrete}
use native.Mathlib.Omega.{arith}
use lib.Dec.{eqb→eq}
use lib.Seq.{ext_get_or}
use mir.Facts.{and_yes, yes_and}
use mir.Syntax.{w32}
use mir.Val.{of_z, to_z}
use borrow.Author.Tests.{eq-eqb, not-true}
use Rattle.integers.specs.Range.{outside_at}
use Rattle.integers.specs.Test.{eq_list}
use Rattle.integers.proofs.Tests.{holds, fails, every-at, every_passes, eq_list→≡, eq_list_refl}
use Rattle.limits.specs.Limits.{places_in, components_in, lowest_sample, highest_sample}
use Rattle.answers.specs.declared.Refusal.{Refusal}
use Rattle.answers.specs.Answer.{accepted, returned}
use Rattle.answers.proofs.Causes.{not_accepted}
use Rattle.answers.specs.Job.{job_returned, job_left, Accepts}
use Rattle.answers.proofs.Jobs.{accepted_leaves}
use Rattle.blocks.specs.Blocks.{AllInRange, elements_of}
use Rattle.forward.specs.Forward.{forward_job}
use Rattle.forward.proofs.Acceptance.{accepts, accepted_means}
use Rattle.back.specs.Back.{all_in_range, is_block_of}

-- what `is_ok` says of a call
pub accepts_ok : {A : Type 0} (r : Result A Refusal) → accepted (returned r) ≡ is_ok r
accepts_ok (Ok x) = refl
accepts_ok (Err e) = not_accepted e

-- two buffers, number by number

-- the first i numbers of a and b are the same
pub record Agree (a b : List ℤ) (i : ℕ) : Type 0 where
  pub agree : (k : ℕ) → k < i → get_or a k (pos 0) ≡ get_or b k (pos 0)

agree_more : {a b : List ℤ} {i : ℕ} → Agree a b i → get_or a i (pos 0) ≡ get_or b i (pos 0) → Agree a b (i + 1)
agree_more {a} {b} {i} A e = record { agree = λ k h. go k h (ℕ_discrete k i) }
  where
    go : (k : ℕ) → k < i + 1 → Dec (k ≡ i) → get_or a k (pos 0) ≡ get_or b k (pos 0)
    go k h (yes p) = rw p e
    go k h (no q) = A.agree k (omega arith)

agree_all : (a b : List ℤ) {n i : ℕ} → length a ≡ n → length b ≡ n → n ≤ i → Agree a b i → true ≡ eq_list a b
agree_all a b {n} {i} p q l A = go (ext_get_or (pos 0) a b (p ∙ sym q) (λ k h. let h' : k < n = rw p at h in A.agree k (omega arith)))
  where
    go : a ≡ b → true ≡ eq_list a b
    go e = rw e (sym (holds (eq_list b b) (eq_list_refl b)))

-- r is true only if the first i numbers agree, and it is true if the buffers are equal; where they differ later it may be either
pub record Agreed (a b : List ℤ) (i : ℕ) (r : Bool) : Type 0 where
  pub agrees : T r → Agree a b i
  pub says : a ≡ b → T r

pub agreed_none : {a b : List ℤ} → Agreed a b 0 true
agreed_none = record { agrees = λ t. record { agree = λ k h. absurd (not-suc-le-zero h) }; says = λ e. tt }

-- one number more, compared by its bits

abbrev bits : List ℤ → ℕ → ℕ
bits l i = of_z w32 (get_or l i (pos 0))

pub agreed_more : {a b : List ℤ} {i : ℕ} {r : Bool} → Agreed a b i r → to_z w32 (bits a i) ≡ get_or a i (pos 0) → to_z w32 (bits b i) ≡ get_or b i (pos 0)
    → Agreed a b (i + 1) (r && eqb (bits a i) (bits b i))
agreed_more {a} {b} {i} {r} A read_a read_b = record {
  agrees = λ t.
      let (p, q) = and_yes r (eqb (bits a i) (bits b i)) t in
      agree_more (A.agrees p) (sym read_a ∙ ap (to_z w32) (eqb→eq (bits a i) (bits b i) q) ∙ read_b);
  says = λ e. yes_and r (eqb (bits a i) (bits b i)) (A.says e) (rw (eq-eqb (bits a i) (bits b i) (ap (λ l. bits l i) e)) tt);
}

pub agreed_all : (a b : List ℤ) {n i : ℕ} {r : Bool} → length a ≡ n → length b ≡ n → n ≤ i → Agreed a b i r → r ≡ eq_list a b
agreed_all a b {n} {i} {r} p q l A = go r A
  where
    go : (r : Bool) → Agreed a b i r → r ≡ eq_list a b
    go true A = agree_all a b p q l (A.agrees tt)
    go false A = sym (fails (eq_list a b) (λ t. A.says (eq_list→≡ a b t)))

-- the range, as a test and as a fact

module _ (d : ℕ) (x : List ℤ) where
  abbrev inside : ℕ → Bool
  inside i = not (outside_at lowest_sample highest_sample x i)

  pub range_at : T (all_in_range d x) → AllInRange d x
  range_at t = record { at = λ i h. not-true _ (holds (inside i) (every-at (places_in d) inside t i h)) }

  pub range_test : AllInRange d x → T (all_in_range d x)
  range_test range = every_passes (places_in d) inside (λ i h. rw (range.at i h) tt)

  -- forward of the block x, into a buffer that holds `made`
  module _ (e made : List ℤ) where
    pub forward_refuses : length x ≡ places_in d → length made ≡ components_in d → accepted (job_returned (forward_job d x made)) ≡ false → false ≡ is_block_of d e x
    forward_refuses s l n =
        sym (fails (is_block_of d e x)
        (λ t. subst T (sym (ap accepted (accepts d x made s l (range_at (and_yes (all_in_range d x) (eq_list (elements_of d x) e) t).0))) ∙ n) tt))

    pub forward_accepts : accepted (job_returned (forward_job d x made)) ≡ true → eq_list (job_left (forward_job d x made)) e ≡ is_block_of d e x
    forward_accepts h =
        let t : Accepts (forward_job d x made) = subst T (sym h) tt in
        rw (accepted_leaves (forward_job d x made) t, holds (all_in_range d x) (range_test (accepted_means d x made t).2))
