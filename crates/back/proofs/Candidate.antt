-- The candidate: where a block has the elements, it is that block.
use Rattle.std.specs.Prelude.{◌≡◌, ◌^◌, ◌<◌}
use Rattle.integers.specs.Kit.{sym, ap, ◌∙◌, List, [], ℕ, T, lit<, ℤ, pos, length}
use native.Mathlib.Nat.{one-le-pow}
use lib.Signed.{shr_z}
use mir.Facts.{and_yes, yes_and}
use Rattle.integers.specs.Test.{eq_list}
use Rattle.integers.proofs.Division.{shr_z_exact}
use Rattle.integers.proofs.Sums.{sum_cong}
use Rattle.integers.proofs.Tables.{is_table, length-table}
use Rattle.integers.proofs.Tests.{eq_list→≡, eq_list_refl}
use Rattle.ring.specs.Element.{component, add, mul}
use Rattle.dct.specs.Inverse.{summed_back}
use Rattle.limits.specs.Limits.{places_in}
use Rattle.dct.specs.Transform.{factors}
use Rattle.dct.proofs.Factors.{eight_factor}
use Rattle.dct.proofs.Inverse.{inverse}
use Rattle.elements.specs.Buffer.{element_at}
use Rattle.blocks.specs.Blocks.{sample, AllInRange, elements_of}
use Rattle.blocks.proofs.Blocks.{element_of}
use Rattle.back.specs.Back.{candidate, all_in_range, is_block_of}
use Rattle.back.proofs.Comparison.{range_at, range_test}

module _ (d : ℕ) where
  pub length-candidate : (e : List ℤ) → length (candidate d e) ≡ places_in d
  unfolding candidate
  length-candidate e = length-table (places_in d) (λ r. shr_z (component (summed_back d (element_at e) r) 0) (16 ^ d))

  -- the candidate for the elements of x is x, by the inverse theorem
  candidate_of : (x : List ℤ) → length x ≡ places_in d → candidate d (elements_of d x) ≡ x
  unfolding candidate summed_back
  candidate_of x size = sym (is_table (pos 0) x (places_in d) _ size (λ r h. sym (place r h)))
    where
      place : (r : ℕ) → r < places_in d → shr_z (component (summed_back d (element_at (elements_of d x)) r) 0) (16 ^ d) ≡ sample x r
      place r h =
          ap (λ a. shr_z (component a 0) (16 ^ d))
          (sum_cong [] add (places_in d) _ _ (λ p k. ap (λ a. mul a (factors d p r)) (element_of eight_factor d x p k)) ∙ inverse d (sample x) r h)
          ∙ shr_z_exact (16 ^ d) (sample x r) (one-le-pow d 16 (lit< tt))

  -- a block that has the elements, as a test and as facts

  pub test_block : (e x : List ℤ) → AllInRange d x → elements_of d x ≡ e → T (is_block_of d e x)
  test_block e x range has = yes_and (all_in_range d x) (eq_list (elements_of d x) e) (range_test d x range) (rw has (eq_list_refl e))

  pub block_facts : (e x : List ℤ) → T (is_block_of d e x) → AllInRange d x × (elements_of d x ≡ e)
  block_facts e x t =
      let (range, has) = and_yes (all_in_range d x) (eq_list (elements_of d x) e) t in
      (range_at d x range, eq_list→≡ (elements_of d x) e has)

  -- if any block has them, the candidate is that block
  pub only-candidate : (e x : List ℤ) → length x ≡ places_in d → elements_of d x ≡ e → candidate d e ≡ x
  only-candidate e x size has = ap (candidate d) (sym has) ∙ candidate_of x size
