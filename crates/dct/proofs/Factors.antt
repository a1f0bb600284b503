-- The factors: they and their products have all eight components; the product of two by their angles; the factors of d + 1 dimensions by the last digits
-- of the indices. And the elements of a multiple of a block.
use Rattle.std.specs.Prelude.{◌≡◌, ◌+◌, ◌*◌, ◌/◌, ◌%◌, ◌^◌, ◌<◌, ◌+ℤ◌, ◌-ℤ◌, ◌*ℤ◌}
use Rattle.integers.specs.Kit.{sym, ap, ◌∙◌, List, [], ℕ, zero, suc, ℤ, pos}
use native.Mathlib.Nat.{pow-suc, one-le-pow, zero-lt-suc}
use native.Mathlib.Omega.{arith}
use Rattle.integers.specs.Sum.{sum}
use Rattle.integers.proofs.Sums.{CommutativeMonoid, sum-blocks, sum_cong}
use Rattle.ring.specs.Element.{add, scale, cosine, mul, Eight}
use Rattle.ring.proofs.Components.{eight_only, eight_cosine, eight_scale, eight_sum, eight_mul}
use Rattle.ring.proofs.Cosines.{cosine-product}
use Rattle.ring.proofs.Linear.{linear_scale, linear_sum, scale-scale}
use Rattle.dct.specs.Transform.{angle, factor, factors_by, element_by, step_by}

pub eight_factor : (k n : ℕ) → Eight (factor k n)
unfolding factor
eight_factor k n = eight_cosine (pos (angle k n))

-- a family whose factors have all of their components
module _ {f : ℕ → ℕ → List ℤ} (eights : (k n : ℕ) → Eight (f k n)) where
  pub eight_factors : (d p q : ℕ) → Eight (factors_by f d p q)
  unfolding factors_by
  eight_factors zero p q = eight_only (pos 1) 0
  eight_factors (suc d) p q = eight_mul (eight_factors d (p / 8) (q / 8)) (eights (p % 8) (q % 8))

  -- a block has at least one sample
  pub eight_element : (d : ℕ) (x : ℕ → ℤ) (p : ℕ) → Eight (element_by f d x p)
  unfolding element_by
  eight_element d x p = eight_sum (8 ^ d) _ (one-le-pow d 8 (zero-lt-suc 7)) (λ q h. eight_scale (x q) (eight_factors d p q))

  pub eight_step : (r : ℕ → List ℤ) → ((n : ℕ) → n < 8 → Eight (r n)) → (k : ℕ) → Eight (step_by f r k)
  unfolding step_by
  eight_step r e k = eight_sum 8 _ (zero-lt-suc 7) (λ n h. eight_mul (e n h) (eights k n))

-- the product of two factors by their angles: a computed test of it multiplies nothing out
unfoldable pub angle_product : ℕ → ℕ → List ℤ
angle_product a b = add (cosine (pos a +ℤ pos b)) (cosine (pos a -ℤ pos b))

pub factor-product : (k n l m : ℕ) → mul (factor k n) (factor l m) ≡ angle_product (angle k n) (angle l m)
unfolding factor angle_product
factor-product k n l m = cosine-product (pos (angle k n)) (pos (angle l m))

-- by the last digit of an index

div_digit : (a b : ℕ) → b < 8 → (a * 8 + b) / 8 ≡ a
div_digit a b h = omega arith

mod_digit : (a b : ℕ) → b < 8 → (a * 8 + b) % 8 ≡ b
mod_digit a b h = omega arith

-- any family
module _ (f : ℕ → ℕ → List ℤ) where
  pub factors_frequency : (d p k q : ℕ) → k < 8 → factors_by f (suc d) (p * 8 + k) q ≡ mul (factors_by f d p (q / 8)) (f k (q % 8))
  unfolding factors_by
  factors_frequency d p k q h = rw (div_digit p k h, mod_digit p k h)

  pub factors-place : (d p q n : ℕ) → n < 8 → factors_by f (suc d) p (q * 8 + n) ≡ mul (factors_by f d (p / 8) q) (f (p % 8) n)
  unfolding factors_by
  factors-place d p q n h = rw (div_digit q n h, mod_digit q n h)

  -- a block whose samples are s times those of another has s times its elements
  pub element-multiple : (d : ℕ) (s : ℤ) (x y : ℕ → ℤ) → ((q : ℕ) → q < 8 ^ d → y q ≡ s *ℤ x q) → (p : ℕ) → element_by f d y p ≡ scale s (element_by f d x p)
  unfolding element_by
  element-multiple d s x y same p =
      sum_cong [] add (8 ^ d) _ _ (λ q h. ap (λ z. scale z (factors_by f d p q)) (same q h) ∙ sym (scale-scale s (x q) (factors_by f d p q)))
      ∙ sym (linear_sum (scale s) (linear_scale s) (8 ^ d) (λ q. scale (x q) (factors_by f d p q)))

  pub step_cong : (r s : ℕ → List ℤ) (k : ℕ) → ((n : ℕ) → n < 8 → r n ≡ s n) → step_by f r k ≡ step_by f s k
  unfolding step_by
  step_cong r s k e = sum_cong [] add 8 _ _ (λ n h. ap (λ a. mul a (f k n)) (e n h))

-- a sum over all indices of d + 1 dimensions goes by their first d digits, and then the last
module _ {A : Type 0} (none : A) (plus : A → A → A) (M : CommutativeMonoid none plus) where
  pub sum_digits : (d : ℕ) (f : ℕ → A) → sum none plus (8 ^ suc d) f ≡ sum none plus (8 ^ d) (λ q. sum none plus 8 (λ n. f (q * 8 + n)))
  sum_digits d f = rw (pow-suc 8 d) (sum-blocks none plus M (8 ^ d) 8 f)
