-- The halves of a step over whole numbers: room for their sums, and what the combinations make of them.
use Rattle.std.specs.Prelude.{◌≡◌, ◌+◌, ◌*◌, ◌-◌, ◌<◌}
use Rattle.integers.specs.Kit.{refl, ap, ◌∙◌, List, [], ℕ, T, eqb, lit<, lit≤, ℤ, pos, negsuc, get_or}
use native.Mathlib.Omega.{arith}
use lib.Dec.{eqb→eq}
use Rattle.integers.specs.Sum.{sum}
use Rattle.integers.specs.Test.{every, every₂}
use Rattle.integers.proofs.Tests.{every-at, every₂-at}
use Rattle.integers.proofs.Sums.{sum_cong}
use Rattle.ring.specs.Element.{add, negate, subtract, integer, mul}
use Rattle.ring.specs.Maps.{part}
use Rattle.ring.proofs.Components.{component-add, component-scale}
use Rattle.ring.proofs.Product.{mul_comm}
use Rattle.dct.specs.Transform.{angle, factor, step, step_by, half_step}
use Rattle.dct.proofs.Halves.{even_step, odd_step}
use Rattle.elements.specs.declared.Element.{Element}
use Rattle.elements.specs.Bound.{bit_limit}
use Rattle.elements.specs.Buffer.{Row, item}
use Rattle.element_rows.specs.Room.{Small, Room}
use Rattle.element_rows.proofs.Rooms.{small_le, small_add, small_subtract, small_cosine, small_sum, row_room}
use Rattle.integer_step.specs.declared.TheConstants.{ANGLES}
use Rattle.integer_step.specs.Combination.{cosine_sum}

-- a step lets elements grow sixteenfold at most
pub small_step : {B : ℕ} (r : ℕ → List ℤ) (k : ℕ) → ((n : ℕ) → n < 8 → Small B (r n)) → Small (16 * B) (step r k)
unfolding step_by factor
small_step {B} r k s =
    small_le (omega arith) (small_sum 8 (B + B) _ (lit< tt) (λ n h. rw (mul_comm (r n) (factor k n)) (small_cosine (pos (angle k n)) (s n h))))

-- the parts of a sum and of a difference

part-add : (a b : List ℤ) → part (add a b) 0 ≡ add (part a 0) (part b 0)
part-add a b = ap integer (component-add a b 0)

part-subtract : (a b : List ℤ) → part (subtract a b) 0 ≡ subtract (part a 0) (part b 0)
part-subtract a b = part-add a (negate b) ∙ ap (add (part a 0)) (ap integer (component-scale (negsuc 0) b 0))

-- the code's angle at place n of frequency 2i+p
abbrev pub angle_at : ℕ → ℕ → ℕ → ℕ
angle_at p i n = get_or (get_or (get_or ANGLES p []) i []) n 0

angles_test : T (every 2 (λ p. every₂ 4 (λ i n. eqb (angle_at p i n) (angle (2 * i + p) n))))
angles_test = tt

angle_is : (p i n : ℕ) → p < 2 → i < 4 → n < 4 → angle_at p i n ≡ angle (2 * i + p) n
angle_is p i n h k l =
    let tested = every-at 2 (λ p. every₂ 4 (λ i n. eqb (angle_at p i n) (angle (2 * i + p) n))) angles_test p h in
    eqb→eq _ _ (every₂-at 4 (λ i n. eqb (angle_at p i n) (angle (2 * i + p) n)) tested i n k l)

cosine_sum-half : (r : ℕ → List ℤ) (k : ℕ) → cosine_sum r (angle k 0) (angle k 1) (angle k 2) (angle k 3) ≡ half_step (λ n. part (r n) 0) k
unfolding half_step sum factor
cosine_sum-half r k = refl

-- a combination by the code's angles is the half_step of their frequency
pub angles_half : (p : ℕ) (r : ℕ → List ℤ) (i : ℕ) → p < 2 → i < 4
    → cosine_sum r (angle_at p i 0) (angle_at p i 1) (angle_at p i 2) (angle_at p i 3) ≡ half_step (λ n. part (r n) 0) (2 * i + p)
angles_half p r i h k =
    rw (angle_is p i 0 h k (lit< tt), angle_is p i 1 h k (lit< tt), angle_is p i 2 h k (lit< tt), angle_is p i 3 h k (lit< tt)) (cosine_sum-half r (2 * i + p))

-- the row s has what an operation makes of the numbers that stand opposite each other in x
abbrev Paired : (List ℤ → List ℤ → List ℤ) → List Element → List Element → Type 0
Paired of x s = Row 4 (λ n. of (item x n) (item x (7 - n))) s

-- its half_step is that of the parts
half : (of : List ℤ → List ℤ → List ℤ) → ((a b : List ℤ) → part (of a b) 0 ≡ of (part a 0) (part b 0)) → (x : List Element) {s : List Element} → Paired of x s → (k : ℕ)
    → half_step (λ n. part (item s n) 0) k ≡ half_step (λ n. of (part (item x n) 0) (part (item x (7 - n)) 0)) k
unfolding half_step
half of parts x S k =
    sum_cong [] add 4 _ _ (λ n l. ap (λ a. mul a (factor k n)) (ap (λ a. part a 0) (S.at n l) ∙ parts (item x n) (item x (7 - n))))

module _ (x : List Element) {s : List Element} where
  pub from_sums : Paired add x s → {r : List Element} → Row 4 (λ i. half_step (λ n. part (item s n) 0) (2 * i + 0)) r
      → Row 4 (λ i. step (λ n. part (item x n) 0) (2 * i)) r
  from_sums S R = record { at = λ i h. R.at i h ∙ half add part-add x S (2 * i + 0) ∙ even_step (λ n. part (item x n) 0) i h ∙ ap (step (λ n. part (item x n) 0)) (omega arith) }

  pub from_differences : Paired subtract x s → {r : List Element} → Row 4 (λ i. half_step (λ n. part (item s n) 0) (2 * i + 1)) r
      → Row 4 (λ i. step (λ n. part (item x n) 0) (2 * i + 1)) r
  from_differences S R = record { at = λ i h. R.at i h ∙ half subtract part-subtract x S (2 * i + 1) ∙ odd_step (λ n. part (item x n) 0) i h }

module _ {x : List Element} (R : Room 8 (bit_limit 27) x) where
  opposite : (n : ℕ) → n < 4 → Small (bit_limit 27) (item x n) × Small (bit_limit 27) (item x (7 - n))
  opposite n h = (R.small n (omega arith), R.small (7 - n) (omega arith))

  -- the room that they leave
  pub room-sums : {s : List Element} → Paired add x s → Paired add x s × Room 4 (bit_limit 28) s
  room-sums S = (S, row_room S (λ n h. let (p, q) = opposite n h in small_le (lit≤ tt) (small_add p q)))

  pub room-differences : {s : List Element} → Paired subtract x s → Paired subtract x s × Room 4 (bit_limit 28) s
  room-differences S = (S, row_room S (λ n h. let (p, q) = opposite n h in small_le (lit≤ tt) (small_subtract p q)))
