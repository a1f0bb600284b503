-- Which components of a block's elements are 0, by the classes of their frequencies (01, "Consequences to be shown").
use Rattle.std.specs.Prelude.{◌≡◌, ◌||◌, ◌∷◌, ◌<◌, ◌+ℤ◌, ◌*ℤ◌}
use Rattle.integers.specs.Kit.{refl, sym, ap, ◌∙◌, Bool, true, false, cond, List, [], ℕ, zero, suc, T, eqb, ℤ, pos, get_or}
use mathlib.Core.Bool.{true≢false}
use native.Mathlib.Omega.{arith}
use lib.IntN.{*ℤ-zero}
use borrow.Author.Tests.{eqb-false, ne_eqb}
use Rattle.integers.specs.Sum.{sum}
use Rattle.integers.specs.Test.{eq_list, every₂}
use Rattle.integers.proofs.Sums.{integers, sum_cong, sum_map, sum_none}
use Rattle.integers.proofs.Tables.{get_d_table}
use Rattle.integers.proofs.Tests.{every₂-at, eq_list→≡}
use Rattle.ring.specs.Element.{component, add, scale, cosine, mul}
use Rattle.ring.proofs.Components.{component-add, component-scale}
use Rattle.dct.specs.Rows.{unit, restricted}
use Rattle.dct.specs.Transform.{angle, factor, double_sum, double_sum_by, components_at, component_index, among}
use Rattle.dct.proofs.Factors.{angle_product, factor-product}
use Rattle.dct.proofs.Parts.{multiple_kept, sum_kept}

-- t(u,i) × t(v,j) has no components but those that are allowed at (u,v)
class_at : ℕ → ℕ → ℕ → ℕ → Bool
class_at u v i j =
    let e = angle_product (angle u i) (angle v j) in
    eq_list (restricted 4 (component_index u v) e) e

class_test : T (every₂ 8 (λ u v. every₂ 8 (class_at u v)))
unfolding class_at restricted sum components_at angle_product cosine
class_test = tt

-- so has the sum of their multiples
pub allowed_components : (x : ℕ → ℕ → ℤ) (u v : ℕ) → u < 8 → v < 8 → restricted 4 (component_index u v) (double_sum x u v) ≡ double_sum x u v
unfolding double_sum_by class_at
allowed_components x u v hu hv =
    sum_kept 4 (component_index u v) 7 _ (λ i hi. sum_kept 4 (component_index u v) 7 _ (λ j hj. multiple_kept 4 (component_index u v) (x i j) (product i j hi hj)))
  where
    product : (i j : ℕ) → i < 8 → j < 8 → restricted 4 (component_index u v) (mul (factor u i) (factor v j)) ≡ mul (factor u i) (factor v j)
    product i j hi hj =
        let t = every₂-at 8 (class_at u v) (every₂-at 8 (λ u v. every₂ 8 (class_at u v)) class_test u v hu hv) i j hi hj in
        rw (factor-product u i v j) (eq_list→≡ _ _ t)

neither : (a b : Bool) → a || b ≡ false → (a ≡ false) × (b ≡ false)
neither true b e = absurd (true≢false e)
neither false b e = (refl, e)

-- an index that is not in the list is none of it
not_index : (l : List ℕ) (k : ℕ) → k < 8 → among l k ≡ false → (i : ℕ) → eqb k (get_or l i 8) ≡ false
not_index [] k h e i = ne_eqb k 8 (λ q. omega arith)
not_index (a ∷ l) k h e zero = ne_eqb k a (λ q. eqb-false a k (neither (eqb a k) (among l k) e).0 (sym q))
not_index (a ∷ l) k h e (suc i) = not_index l k h (neither (eqb a k) (among l k) e).1 i

pub zero_component : (x : ℕ → ℕ → ℤ) (u v k : ℕ) → u < 8 → v < 8 → k < 8 → among (components_at u v) k ≡ false → component (double_sum x u v) k ≡ pos 0
unfolding restricted
zero_component x u v k hu hv hk e =
    let a = double_sum x u v in
    let at = component_index u v in
    ap (λ b. component b k) (sym (allowed_components x u v hu hv))
    ∙ sum_map [] add (pos 0) ◌+ℤ◌ (λ b. component b k) refl (λ b c. component-add b c k) 4 (λ i. scale (component a (at i)) (unit (at i)))
    ∙ sum_cong (pos 0) ◌+ℤ◌ 4 _ (λ i. pos 0) (λ i h. component-scale (component a (at i)) (unit (at i)) k ∙ ap (λ z. component a (at i) *ℤ z)
    (get_d_table 8 (λ j. cond (eqb j (at i)) (pos 1) (pos 0)) (pos 0) k hk ∙ rw (not_index (components_at u v) k hk e i)) ∙ *ℤ-zero (component a (at i)))
    ∙ sum_none (pos 0) ◌+ℤ◌ integers 4
