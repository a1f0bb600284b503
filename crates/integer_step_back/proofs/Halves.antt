-- The halves of the transpose: room for their sums, and what they make of a row.
use Rattle.std.specs.Prelude.{◌≡◌, ◌∷◌, ◌+◌, ◌*◌, ◌-◌, ◌%◌, ◌<◌, ◌+ℤ◌}
use Rattle.integers.specs.Kit.{refl, sym, ap, ap₂, ◌∙◌, List, [], ℕ, T, eqb, lit<, lit≤, ℤ, get_or}
use native.Mathlib.Nat.{le_trans}
use native.Mathlib.Omega.{arith}
use lib.IntN.{+ℤ_idl}
use lib.Dec.{eqb→eq}
use Rattle.integers.specs.Sum.{sum}
use Rattle.integers.specs.Test.{every, every₂}
use Rattle.integers.proofs.Tests.{every-at, every₂-at}
use Rattle.integers.proofs.Integer.{minus-one-*ℤ}
use Rattle.integers.proofs.Sums.{nat_abs-sum}
use Rattle.ring.specs.Element.{add, subtract, integer}
use Rattle.ring.specs.Maps.{dot}
use Rattle.dct.specs.Inverse.{half_back, integer_back}
use Rattle.dct.specs.Transform.{angle, factor}
use Rattle.dct.proofs.IntegerBack.{angle_between, back_sum, back-difference}
use Rattle.elements.specs.declared.Element.{Element}
use Rattle.elements.specs.Bound.{Within, bit_limit, headroom}
use Rattle.elements.specs.Buffer.{Row, item}
use Rattle.element_rows.specs.Room.{Room}
use Rattle.element_rows.proofs.Rooms.{small_integer, small_dot, row_4, row_8, row_room}
use Rattle.integer_step_back.specs.declared.TheConstants.{ANGLES}
use Rattle.integer_step_back.specs.Combination.{term, along_sum}

-- a term of a combination needs no more than its element
pub within_term : {r : List Element} → Room 4 (bit_limit 24) r → (n : ℕ) → n < 4 → (m : ℕ) → 0 < m % 8 → Within (bit_limit 28) (integer (term (item r) n m))
within_term {r} R n h m l = (small_integer (term (item r) n m) (le_trans (small_dot m l (R.small n h)) (lit≤ tt))).within

-- the sums of a half

-- the code's angle of frequency 2i+p at place n
abbrev pub angle_at : ℕ → ℕ → ℕ → ℕ
angle_at p n i = get_or (get_or (get_or ANGLES p []) n []) i 0

angles_test : T (every 2 (λ p. every₂ 4 (λ n i. eqb (angle_at p n i) (angle (2 * i + p) n))))
angles_test = tt

pub angle_is : (p n i : ℕ) → p < 2 → n < 4 → i < 4 → angle_at p n i ≡ angle (2 * i + p) n
angle_is p n i h k l =
    let tested = every-at 2 (λ p. every₂ 4 (λ n i. eqb (angle_at p n i) (angle (2 * i + p) n))) angles_test p h in
    eqb→eq _ _ (every₂-at 4 (λ n i. eqb (angle_at p n i) (angle (2 * i + p) n)) tested n i k l)

pub along_sum-half : (p : ℕ) (r : ℕ → List ℤ) (n : ℕ)
    → along_sum r (angle (2 * 0 + p) n) (angle (2 * 1 + p) n) (angle (2 * 2 + p) n) (angle (2 * 3 + p) n) ≡ half_back p r n
unfolding half_back sum factor
along_sum-half p r n =
    ap (λ (z : ℤ). ((z +ℤ term r 1 (angle (2 * 1 + p) n)) +ℤ term r 2 (angle (2 * 2 + p) n)) +ℤ term r 3 (angle (2 * 3 + p) n))
    (sym (+ℤ_idl (term r 0 (angle (2 * 0 + p) n))))

pub angles_half : (p : ℕ) (r : ℕ → List ℤ) (n : ℕ) → p < 2 → n < 4
    → along_sum r (angle_at p n 0) (angle_at p n 1) (angle_at p n 2) (angle_at p n 3) ≡ half_back p r n
angles_half p r n h k =
    rw (angle_is p n 0 h k (lit< tt), angle_is p n 1 h k (lit< tt), angle_is p n 2 h k (lit< tt), angle_is p n 3 h k (lit< tt)) (along_sum-half p r n)

-- what a half gives is a sum of four numbers
pub room_back : (p : ℕ) → p < 2 → {x e : List Element} → Room 4 (bit_limit 24) x → Row 4 (λ n. integer (half_back p (item x) n)) e → Room 4 headroom e
unfolding half_back factor
room_back p h {x} R E =
    row_room E (λ n l. small_integer (half_back p (item x) n)
    (le_trans (nat_abs-sum 4 (bit_limit 24) (λ i. dot (item x i) (factor (2 * i + p) n))
    (λ i b. small_dot (angle (2 * i + p) n) (angle_between (2 * i + p) n (omega arith) (omega arith)) (R.small i b))) (lit≤ tt)))

-- a row from what its halves give

abbrev at : List Element → ℕ → Element
at x n = get_or x n (record { components = [] })

abbrev back : (ℕ → List ℤ) → (ℕ → List ℤ) → ℕ → List ℤ
back f g n = integer (half_back 0 f n +ℤ half_back 1 g n)

module _ (f g : ℕ → List ℤ) {e o : List Element} (E : Row 4 (λ n. integer (half_back 0 f n)) e) (O : Row 4 (λ n. integer (half_back 1 g n)) o) where
  sum_at : {s : List Element} → Row 4 (λ n. add (item e n) (item o n)) s → (n : ℕ) → n < 4 → item s n ≡ back f g n
  sum_at S n h = S.at n h ∙ ap₂ add (E.at n h) (O.at n h)

  difference-at : {d : List Element} → Row 4 (λ n. subtract (item e (3 - n)) (item o (3 - n))) d → (n : ℕ) → n < 4 → item d n ≡ back f g (4 + n)
  difference-at D n h =
      let m = 3 - n in
      let place : 7 - m ≡ 4 + n = omega arith in
      D.at n h ∙ ap₂ subtract (E.at m (omega arith)) (O.at m (omega arith))
      ∙ ap integer (ap (λ (z : ℤ). half_back 0 f m +ℤ z) (minus-one-*ℤ (half_back 1 g m)) ∙ sym (back-difference f g m (omega arith)))
      ∙ ap (back f g) place

  pub row_back : {s d : List Element} → Row 4 (λ n. add (item e n) (item o n)) s → Row 4 (λ n. subtract (item e (3 - n)) (item o (3 - n))) d
      → Row 8 (back f g) (at s 0 ∷ at s 1 ∷ at s 2 ∷ at s 3 ∷ at d 0 ∷ at d 1 ∷ at d 2 ∷ at d 3 ∷ [])
  row_back S D =
      let sum = sum_at S in
      let difference = difference-at D in
      row_8 (sum 0 (lit< tt)) (sum 1 (lit< tt)) (sum 2 (lit< tt)) (sum 3 (lit< tt))
      (difference 0 (lit< tt)) (difference 1 (lit< tt)) (difference 2 (lit< tt)) (difference 3 (lit< tt))

-- and from its own elements

abbrev half : ℕ → List Element → List Element
half p x = at x (2 * 0 + p) ∷ at x (2 * 1 + p) ∷ at x (2 * 2 + p) ∷ at x (2 * 3 + p) ∷ []

row-half : (p : ℕ) (x : List Element) → Row 4 (λ i. item x (2 * i + p)) (half p x)
row-half p x = row_4 refl refl refl refl

module _ (x : List Element) where
  pub room-half : Room 8 (bit_limit 24) x → (p : ℕ) → p < 2 → Room 4 (bit_limit 24) (half p x)
  room-half R p h = row_room (row-half p x) (λ i l. R.small (2 * i + p) (omega arith))

  pub row_halves : {r : List Element} → Row 8 (back (item (half 0 x)) (item (half 1 x))) r → Row 8 (λ n. integer (integer_back (item x) n)) r
  row_halves R = record { at = λ n h. R.at n h ∙ ap integer (back_sum (item (half 0 x)) (item (half 1 x)) n (item x) (row-half 0 x).at (row-half 1 x).at) }
