-- Linear forms: whole numbers that are made linearly of an element's components.
use Rattle.std.specs.Prelude.{◌≡◌, ◌+ℤ◌, ◌*ℤ◌}
use Rattle.integers.specs.Kit.{refl, sym, ap, ap₂, ◌∙◌, Bool, true, false, cond, List, [], ℤ, pos, neg_ℤ}
use lib.IntN.{+ℤ_comm, +ℤ_assoc, *ℤ_comm, *ℤ-zero, neg_ℤ-+ℤ}
use Rattle.integers.proofs.Integer.{*ℤ_assoc, *ℤ-+ℤ, *ℤ-neg_ℤ}
use Rattle.integers.proofs.Sums.{swap}
use Rattle.ring.specs.Element.{add, scale}
use Rattle.ring.specs.Maps.{LinearForm}

pub form_none : LinearForm (λ a. pos 0)
form_none = record { nil = refl; sums = λ a b. refl; multiples = λ s a. sym (*ℤ-zero s) }

-- a map that equals a linear form at each element is a linear form
pub form_same : {φ ψ : List ℤ → ℤ} → ((a : List ℤ) → φ a ≡ ψ a) → LinearForm ψ → LinearForm φ
form_same {φ} {ψ} e l = record {
  nil = e [] ∙ l.nil;
  sums = λ a b. e (add a b) ∙ l.sums a b ∙ sym (ap₂ ◌+ℤ◌ (e a) (e b));
  multiples = λ s a. e (scale s a) ∙ l.multiples s a ∙ sym (ap (λ (z : ℤ). s *ℤ z) (e a));
}

pub form_plus : {φ ψ : List ℤ → ℤ} → LinearForm φ → LinearForm ψ → LinearForm (λ a. φ a +ℤ ψ a)
form_plus {φ} {ψ} p q = record {
  nil = ap₂ ◌+ℤ◌ p.nil q.nil;
  sums = λ a b. ap₂ ◌+ℤ◌ (p.sums a b) (q.sums a b) ∙ swap ◌+ℤ◌ +ℤ_comm +ℤ_assoc (φ a) (φ b) (ψ a) (ψ b);
  multiples = λ s a. ap₂ ◌+ℤ◌ (p.multiples s a) (q.multiples s a) ∙ sym (*ℤ-+ℤ s (φ a) (ψ a));
}

pub form_neg : {φ : List ℤ → ℤ} → LinearForm φ → LinearForm (λ a. neg_ℤ (φ a))
form_neg {φ} p = record {
  nil = ap neg_ℤ p.nil;
  sums = λ a b. ap neg_ℤ (p.sums a b) ∙ neg_ℤ-+ℤ (φ a) (φ b);
  multiples = λ s a. ap neg_ℤ (p.multiples s a) ∙ sym (*ℤ-neg_ℤ s (φ a));
}

pub form_times : (s : ℤ) {φ : List ℤ → ℤ} → LinearForm φ → LinearForm (λ a. s *ℤ φ a)
form_times s {φ} p = record {
  nil = ap (λ (z : ℤ). s *ℤ z) p.nil ∙ *ℤ-zero s;
  sums = λ a b. ap (λ (z : ℤ). s *ℤ z) (p.sums a b) ∙ *ℤ-+ℤ s (φ a) (φ b);
  multiples = λ t a. ap (λ (z : ℤ). s *ℤ z) (p.multiples t a) ∙ sym (*ℤ_assoc s t (φ a)) ∙ ap (λ (z : ℤ). z *ℤ φ a) (*ℤ_comm s t) ∙ *ℤ_assoc t s (φ a);
}

pub form_cond : (t : Bool) {φ ψ : List ℤ → ℤ} → LinearForm φ → LinearForm ψ → LinearForm (λ a. cond t (φ a) (ψ a))
form_cond true p q = p
form_cond false p q = q
