-- What a step over a row is summed of, part by part, and the room for it. A half of a row has the frequencies g 0 to g 3.
use Rattle.std.specs.Prelude.{◌≡◌, ◌+◌, ◌*◌, ◌≤◌, ◌<◌}
use Rattle.integers.specs.Kit.{ap, ap₂, ◌∙◌, List, [], ℕ, lit≤, ℤ, pos}
use native.Mathlib.Omega.{arith}
use Rattle.integers.specs.Sum.{sum}
use Rattle.integers.proofs.Sums.{sum_cong}
use Rattle.ring.specs.Element.{add, cosine, mul}
use Rattle.ring.specs.Maps.{part}
use Rattle.dct.specs.Transform.{factor, step}
use Rattle.dct.proofs.Factors.{step_cong}
use Rattle.dct.proofs.Parts.{unit-cosine, by_parts}
use Rattle.elements.specs.declared.Element.{Element}
use Rattle.elements.specs.Bound.{bit_limit, headroom}
use Rattle.elements.specs.Buffer.{Row, item}
use Rattle.element_rows.specs.Room.{Room}
use Rattle.element_rows.proofs.Rooms.{small_le, small_add, small_cosine, small_part, joined_row, row_room}
use Rattle.integer_step.proofs.Halves.{small_step}
use Rattle.element_steps.specs.Class.{OnlyComponents, part_step}

-- one part, as whole numbers in a: the step of these leaves room for the product, and the product for three sums
module _ (x : List Element) (k : ℕ) {a e : List Element} (A : Row 8 (λ n. part (item x n) k) a) (R : Room 8 (bit_limit 23) a)
    (g : ℕ → ℕ) (E : Row 4 (λ i. step (λ n. part (item a n) 0) (g i)) e) where
  pub room-step : Room 4 headroom e
  room-step = row_room E (λ i h. small_le (lit≤ tt) (small_step _ (g i) (λ n l. small_part 0 (R.small n l))))

  pub half-part : {t : List Element} → Row 4 (λ i. mul (cosine (pos k)) (item e i)) t → Row 4 (λ i. part_step x k (g i)) t × Room 4 (bit_limit 28) t
  half-part {t} T = (
    record { at = λ i h. T.at i h ∙ ap (mul (cosine (pos k))) (E.at i h ∙ step_cong factor _ _ (g i) (λ n l. ap (λ b. part b 0) (A.at n l))) },
    row_room T (λ i h. small_le (lit≤ tt) (small_cosine (pos k) {B = 16 * bit_limit 23} (rw (E.at i h) (small_step _ (g i) (λ n l. small_part 0 (R.small n l)))))),
  )

-- a row of its halves, the even one and then the odd one
pub joined_halves : {e o r : List Element} (f : ℕ → List ℤ) → Row 4 (λ i. item r (2 * i)) e × Row 4 (λ i. item r (2 * i + 1)) o
    → Row 4 (λ i. f (2 * i + 0)) e → Row 4 (λ i. f (2 * i + 1)) o → Row 8 f r
joined_halves f J E O = joined_row f J (record { at = λ i h. let z : 2 * i + 0 ≡ 2 * i = omega arith in rw z at (E.at i h) }) O

-- the sum over all parts that a row has is its step
module _ {x : List Element} {m : ℕ} {k : ℕ → ℕ} (C : OnlyComponents m k x) (some : (j : ℕ) → j < m → (0 < k j) × (k j < 8)) where
  pub all_parts : (f : ℕ) → sum [] add m (λ j. part_step x (k j) f) ≡ step (item x) f
  all_parts f =
      sum_cong [] add m _ _ (λ j b. ap (λ u. mul u (step (λ n. part (item x n) (k j)) f)) (unit-cosine (k j) (some j b).0 (some j b).1))
      ∙ by_parts factor k m (item x) C.counts f

-- sums of two halves: what they are, and their room

pub sum-two : {p q : ℕ → List ℤ} {a b r : List Element} → Row 4 p a → Row 4 q b → Row 4 (λ n. add (item a n) (item b n)) r → Row 4 (λ n. add (p n) (q n)) r
sum-two A B S = record { at = λ i h. S.at i h ∙ ap₂ add (A.at i h) (B.at i h) }

pub room_added : {A B : ℕ} (C : ℕ) {x y r : List Element} → A + B ≤ C → Room 4 A x → Room 4 B y → Row 4 (λ n. add (item x n) (item y n)) r → Room 4 C r
room_added C l R S T = row_room T (λ i h. small_le l (small_add (R.small i h) (S.small i h)))
