-- A line that is written part after part: each part fills its places of the buffer, and two parts are one.
use Rattle.std.specs.Prelude.{◌≡◌, ◌++◌, ◌+◌, ◌≤◌}
use Rattle.integers.specs.Kit.{refl, ap, ◌∙◌, List, ℕ, length, take, drop}
use native.Mathlib.Omega.{arith}
use lib.ListN.{length-append}
use Rattle.integers.specs.Table.{over, over_at}
use Rattle.integers.proofs.Overwriting.{length-over_at, over_on, over-start}
use Rattle.text.specs.declared.Writer.{Writer}
use Rattle.text.specs.Parts.{Appended, Wrote}

-- the k places from `at` on are lent, and come back as ys
pub lent : (part xs ys : List ℕ) (at k : ℕ) → at + length part ≤ length xs → k ≡ length part → ys ≡ part
    → Appended part at xs (take at xs ++ (ys ++ drop k (drop at xs))) (at + length part)
unfolding over_at over
lent part xs ys at k h e f = record { room = h; end = refl; stored = rw (e, f) refl }

pub same-part : {p q : List ℕ} {w x : Writer} → p ≡ q → Wrote p w x → Wrote q w x
same-part e W = rw e at W

-- two parts, one after the other

joined : {p q x y z : List ℕ} {at a b : ℕ} → Appended p at x y a → Appended q a y z b → Appended (p ++ q) at x z b
joined {p} {q} {x} {at = at} {a = a} C D =
    let h = C.room in
    let more : a + length q ≤ length x = rw (C.stored, length-over_at at p x h) at D.room in
    record {
      room = rw (length-append p q) (omega (arith, C.end));
      end = simp length-append (omega (arith, C.end, D.end));
      stored = D.stored ∙ ap (over_at a q) C.stored ∙ over_on at a p q x (omega arith) C.end;
    }

pub together : {p q : List ℕ} {w x y : Writer} → Wrote p w x → Wrote q x y → Wrote (p ++ q) w y
together V W = record { appended = joined V.appended W.appended; same_length = W.same_length ∙ V.same_length; same_reference = W.same_reference ∙ V.same_reference }

-- the whole line stands over the start
pub whole : {p : List ℕ} {w x : Writer} → w.at ≡ 0 → Wrote p w x → (x.at ≡ length p) × (x.output.now ≡ over p w.output.now)
whole {p} {w} e W =
    let A = W.appended in
    (omega (arith, A.end, e), A.stored ∙ ap (λ a. over_at a p w.output.now) e ∙ over-start p w.output.now)
