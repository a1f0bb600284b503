-- The loop over the blocks of a sheet.
use Rattle.std.specs.Prelude.{◌≡◌, ◌+◌, ◌-◌, ◌≤◌, ◌<◌}
use Rattle.integers.specs.Kit.{refl, sym, ap, ◌∙◌, List, ℕ, ℤ, pos, length}
use Prim.Native.Nat.{zero-le}
use native.Mathlib.Nat.{not-suc-le-zero}
use native.Mathlib.Omega.{arith}
use Rattle.integers.proofs.Overwriting.{over_at_none}
use Rattle.sheet_checks.specs.Check.{blocks}
use Rattle.sheet_blocks.specs.Preconditions.{Checked, with_blocks}
use Rattle.sheet_blocks.specs.declared.Totals.{Totals}
use Rattle.sheet_blocks.specs.Blocks.{Scratch, block}
use Rattle.sheet_blocks.specs.Sums.{Agree}
use Rattle.sheet_blocks.proofs.Output.{one_more}
use Rattle.sheet_blocks.proofs.Sums.{agree_none}

-- k blocks are done: the scratch holds what it has of the last of them, the output, which was `output₀`, their words, and t are their sums
pub record Reached (K : Scratch) (words : List ℕ) (b : ℕ) (output₀ : List ℕ) (k : ℕ) (t : Totals) (scratch : List ℤ) (output : List ℕ) : Type 0 where
  pub checked : Checked K words b (length scratch) (length output)
  pub done : k ≤ blocks words
  pub output_kept : length output ≡ length output₀
  pub last_block : 0 < k → scratch ≡ K.holds (block words (k - 1))
  pub so_far : output ≡ with_blocks b words 0 k output₀
  pub sums : Agree words output k t

module _ {K : Scratch} {words : List ℕ} {b : ℕ} {output₀ : List ℕ} where
  pub reached_none : {t : Totals} {scratch : List ℤ} → Checked K words b (length scratch) (length output₀) → t.samples ≡ pos 0 → t.firsts ≡ pos 0
      → Reached K words b output₀ 0 t scratch output₀
  reached_none C e f = record {
    checked = C;
    done = zero-le;
    output_kept = refl;
    last_block = λ h. absurd (not-suc-le-zero h);
    so_far = sym (over_at_none 1 output₀);
    sums = agree_none words output₀ e f;
  }

  pub reached_more : {k : ℕ} {t r : Totals} {scratch made : List ℤ} {output left : List ℕ} → Reached K words b output₀ k t scratch output → k < blocks words
      → length made ≡ length scratch → length left ≡ length output → Agree words left (k + 1) r → made ≡ K.holds (block words k)
      → left ≡ with_blocks b words k 1 output → Reached K words b output₀ (k + 1) r made left
  reached_more {k} R h s o T e A =
      let C = R.checked in
      let same : k + 1 - 1 ≡ k = omega arith in
      record {
        checked = record { at_width = C.at_width; right = C.right; scratch_size = s ∙ C.scratch_size; output_size = rw o C.output_size };
        done = omega arith;
        output_kept = o ∙ R.output_kept;
        last_block = λ p. rw same e;
        so_far = A ∙ ap (with_blocks b words k 1) R.so_far ∙ one_more b words output₀ k (omega (arith, R.output_kept, C.output_size, C.right.valid_shape.some_words));
        sums = T;
      }
