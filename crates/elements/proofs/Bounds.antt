-- Bounds on components: how far a product with c_m lets them grow, which is to twice the bound, and what they give the code's own sums.
-- `Componentwise` has sums and differences, which add the bounds.
use Rattle.std.specs.Prelude.{◌≡◌, ◌∷◌, ◌+◌, ◌-◌, ◌%◌, ◌≤◌, ◌<◌, ◌+ℤ◌, ◌-ℤ◌}
use Rattle.integers.specs.Kit.{◌∙◌, Bool, true, false, cond, List, [], ℕ, zero, suc, T, eqb, ltb, leb, lit<, ℤ, pos, neg_ℤ, nat_abs}
use Prim.Native.Nat.{zero-le}
use native.Mathlib.Nat.{le_refl, le_trans}
use native.Mathlib.Decide.{dec_lt}
use native.Mathlib.Omega.{arith}
use lib.Dec.{leb→le}
use lib.IntN.{+ℤ_idl}
use lib.ListN.{get_or-eq_default}
use mir.Syntax.{w32}
use mir.Val.{SFits}
use Rattle.integers.specs.Sum.{sum}
use Rattle.integers.specs.Table.{table}
use Rattle.integers.specs.Test.{every}
use Rattle.integers.proofs.Signed.{in32, kept, op_fits, op_kept}
use Rattle.integers.proofs.Magnitudes.{nat_abs-add, nat_abs_neg, nat_abs_sub}
use Rattle.integers.proofs.Tables.{length-table, get_d_table}
use Rattle.integers.proofs.Tests.{every-at}
use Rattle.ring.specs.Element.{component, only, full_turn, cosine, basis_product, mul, Eight}
use Rattle.ring.proofs.Product.{mul_right}
use Rattle.ring.proofs.Components.{eight_cosine, eight_mul, form_component, by_components}
use Rattle.ring.proofs.Magnitude.{form_bound}
use Rattle.elements.specs.Bound.{Within, headroom}
use Rattle.elements.specs.Continued.{continued}

pub within_le : {A B : ℕ} {a : List ℤ} → A ≤ B → Within A a → Within B a
within_le h w = record { within = λ k. le_trans (w.within k) h }

pub within_nil : {B : ℕ} → Within B []
within_nil = record { within = λ k. zero-le }

pub within_cons : {B : ℕ} {x : ℤ} {l : List ℤ} → nat_abs x ≤ B → Within B l → Within B (x ∷ l)
within_cons {B} {x} {l} h w = record { within = go }
  where
    go : (k : ℕ) → nat_abs (component (x ∷ l) k) ≤ B
    go zero = h
    go (suc k) = w.within k

pub within_table : (B n : ℕ) (f : ℕ → ℤ) → ((k : ℕ) → k < n → nat_abs (f k) ≤ B) → Within B (table n f)
within_table B n f h = record { within = λ k. go k (dec_lt k n) }
  where
    go : (k : ℕ) → Dec (k < n) → nat_abs (component (table n f) k) ≤ B
    go k (yes l) = rw (get_d_table n f (pos 0) k l) (h k l)
    go k (no l) = rw (get_or-eq_default (table n f) (pos 0) {n = k} (rw (length-table n f) (omega arith))) zero-le

within_cond : (B : ℕ) (t : Bool) (x y : ℤ) → nat_abs x ≤ B → nat_abs y ≤ B → nat_abs (cond t x y) ≤ B
within_cond B true x y p q = p
within_cond B false x y p q = q

pub within_only : (s : ℤ) (k : ℕ) → Within (nat_abs s) (only s k)
within_only s k =
    within_table (nat_abs s) 8 (λ i. cond (eqb i k) s (pos 0)) (λ i h. within_cond (nat_abs s) (eqb i k) s (pos 0) (le_refl (nat_abs s)) zero-le)

pub within_continued : {B : ℕ} {a : List ℤ} → Within B a → (j : ℕ) → nat_abs (continued a j) ≤ B
unfolding continued
within_continued {B} {a} w j =
    within_cond B (ltb j 7) (component a (7 - j)) _ (w.within (7 - j))
    (within_cond B (ltb j 16) (component a (j - 7)) (neg_ℤ (component a (23 - j))) (w.within (j - 7)) (rw (nat_abs_neg (component a (23 - j))) (w.within (23 - j))))

-- the magnitudes that component i of c_m × 1 and of c_m × c_1 to c_m × c_7 has, summed: two at most, for m from 0 to 31
spread_at : ℕ → ℕ → Bool
spread_at m i = leb (sum 0 ◌+◌ 8 (λ k. nat_abs (component (mul (full_turn m) (only (pos 1) k)) i))) 2

spread_test : T (every 32 (λ m. every 8 (spread_at m)))
unfolding spread_at sum cosine basis_product mul
spread_test = tt

pub within_cosine : (m : ℤ) {B : ℕ} {a : List ℤ} → Eight a → Within B a → Within (B + B) (mul (cosine m) a)
unfolding spread_at cosine
within_cosine m {B} {a} e w = rw (by_components (eight_mul (eight_cosine m) e)) (within_table (B + B) 8 (component (mul (cosine m) a)) at_most)
  where
    at_most : (i : ℕ) → i < 8 → nat_abs (component (mul (cosine m) a) i) ≤ B + B
    at_most i h =
        let r = nat_abs m % 32 in
        let spread = leb→le _ 2 (every-at 8 (spread_at r) (every-at 32 (λ n. every 8 (spread_at n)) spread_test r (omega arith)) i h) in
        let form = form_component (mul (cosine m)) (mul_right (cosine m)) i in
        omega (arith, form_bound (λ b. component (mul (cosine m) b) i) form B 2 spread e w.within)

-- the code's own numbers, read from the bits of an i32

pub held : {r z : ℤ} → r ≡ z → nat_abs z ≤ headroom → in32 r ≡ z
held {z = z} e l = rw e (kept w32 z (omega arith))

-- the negative of one
module _ (z : ℤ) (l : nat_abs z ≤ headroom) where
  pub negative_fits : SFits w32 (pos 0 -ℤ in32 z)
  negative_fits = op_fits ◌-ℤ◌ nat_abs_sub w32 {B = headroom} (lit< tt) (pos 0) z zero-le l

  pub negative_kept : {r : ℤ} → r ≡ pos 0 -ℤ in32 z → in32 r ≡ neg_ℤ z
  negative_kept e = op_kept ◌-ℤ◌ nat_abs_sub w32 {B = headroom} (lit< tt) (pos 0) z zero-le l e ∙ +ℤ_idl (neg_ℤ z)

-- the sum of two
module _ (x y : ℤ) (l : nat_abs x ≤ headroom) (m : nat_abs y ≤ headroom) where
  pub sum_fits : SFits w32 (in32 x +ℤ in32 y)
  sum_fits = op_fits ◌+ℤ◌ nat_abs-add w32 {B = headroom} (lit< tt) x y l m

  pub sum_kept : {r : ℤ} → r ≡ in32 x +ℤ in32 y → in32 r ≡ x +ℤ y
  sum_kept = op_kept ◌+ℤ◌ nat_abs-add w32 {B = headroom} (lit< tt) x y l m

module _ {a b : List ℤ} (p : Within headroom a) (q : Within headroom b) (i : ℕ) where
  pub components_fit : SFits w32 (in32 (component a i) +ℤ in32 (component b i))
  components_fit = sum_fits (component a i) (component b i) (p.within i) (q.within i)

  pub components_kept : {r : ℤ} → r ≡ in32 (component a i) +ℤ in32 (component b i) → in32 r ≡ component a i +ℤ component b i
  components_kept = sum_kept (component a i) (component b i) (p.within i) (q.within i)
