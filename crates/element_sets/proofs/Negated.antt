-- Sets with all components negated: which elements they have, and that magnitudes stay.
use Rattle.std.specs.Prelude.{◌≡◌, ◌+◌, ◌*◌, ◌/◌, ◌%◌, ◌^◌, ◌≤◌, ◌<◌}
use Rattle.integers.specs.Kit.{◌∙◌, List, ℕ, ℤ, pos, negsuc, neg_ℤ, nat_abs, get_or}
use native.Mathlib.Nat.{one-mul, le_trans, lt_of_le_of_lt}
use native.Mathlib.Omega.{arith}
use mir.Syntax.{w32}
use mir.Val.{SFits}
use Rattle.integers.proofs.Magnitudes.{nat_abs_neg, small_fits}
use Rattle.ring.specs.Element.{negate}
use Rattle.ring.proofs.Components.{length-scale, component-negate, negate-table}
use Rattle.ring.proofs.Magnitude.{component_le, magnitudes-scale}
use Rattle.elements.specs.Buffer.{element_at}
use Rattle.elements.proofs.Buffers.{number_at}
use Rattle.element_sets.specs.Sets.{AcceptedSet}

-- element p of a set
pub element_negated : (e : List ℤ) (p : ℕ) → element_at (negate e) p ≡ negate (element_at e p)
unfolding element_at
element_negated e p = negate-table 8 (λ k. get_or e (8 * p + k) (pos 0)) _ (λ k h. component-negate e (8 * p + k))

-- magnitudes stay, and so what is accepted
pub set_negated : {n L : ℕ} {e : List ℤ} → AcceptedSet n L e → AcceptedSet n L (negate e)
set_negated {n} {L} {e} S =
    record {
      size = length-scale (negsuc 0) e ∙ S.size;
      in_limit = λ p h. rw (element_negated e p, magnitudes-scale (negsuc 0) (element_at e p), one-mul) (S.in_limit p h);
    }

-- and each number is one of 32 bits, since none of the set is -2^31
pub negated_fits : {n L : ℕ} {e : List ℤ} → AcceptedSet n L e → L < 2 ^ 31 → (i : ℕ) → i < 8 * n → SFits w32 (get_or (negate e) i (pos 0))
negated_fits {n} {L} {e} S small i h =
    let size : nat_abs (get_or e i (pos 0)) ≤ L = le_trans (rw (number_at e i) at (component_le (element_at e (i / 8)) (i % 8))) (S.in_limit (i / 8) (omega arith)) in
    rw (component-negate e i) (small_fits w32 (neg_ℤ (get_or e i (pos 0))) (rw (nat_abs_neg (get_or e i (pos 0))) (lt_of_le_of_lt size small)))
