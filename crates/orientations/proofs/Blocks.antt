-- "Turning a block's elements gives the elements of the turned block": the elements of a block in another orientation are its elements, each at its
-- place and with its sign. Mirroring a row changes the signs of the odd frequencies, and the transform does the same down as across.
use Rattle.std.specs.Prelude.{◌≡◌, ◌+◌, ◌-◌, ◌*◌, ◌/◌, ◌%◌, ◌<◌, ◌*ℤ◌}
use Rattle.integers.specs.Kit.{sym, ap, ap₂, ◌∙◌, List, [], ℕ, suc, ℤ, pos, length}
use native.Mathlib.Omega.{arith}
use Rattle.integers.proofs.Sums.{sum_cong, sum_swap, sum_reverse}
use Rattle.integers.proofs.Tables.{get_d_table, length-table, table_ext, listed_8}
use Rattle.limits.specs.Limits.{places, components_size}
use Rattle.ring.specs.Element.{component, add, scale, mul}
use Rattle.ring.proofs.Linear.{elements, linear_scale, scale_one, scale-scale}
use Rattle.ring.proofs.Product.{mul_right, mul_comm}
use Rattle.dct.specs.Transform.{factor, element, double_sum, double_sum_by, mirror_sign}
use Rattle.dct.proofs.Factors.{eight_factor}
use Rattle.dct.proofs.Halves.{mirrored}
use Rattle.dct.proofs.Dimensions.{element_by-number, double_sum_cong, linear_double_sum}
use Rattle.blocks.specs.Blocks.{sample, AllInRange, elements_by, elements_of}
use Rattle.blocks.proofs.Blocks.{element_of}
use Rattle.orientations.specs.Orientation.{orientations, reoriented, reoriented_block, sample_at, source, sign, reoriented_elements, composed, sample_source}
use Rattle.orientations.proofs.Places.{reoriented-index, sample-below, source-below, composed-below, composed-sample}

-- 01's double sum at (u,v), mirrored and swapped

swapped-sum : (x : ℕ → ℕ → ℤ) (u v : ℕ) → double_sum (λ i j. x j i) u v ≡ double_sum x v u
unfolding double_sum_by
swapped-sum x u v =
    sum_swap [] add elements 8 8 (λ i j. scale (x j i) (mul (factor u i) (factor v j)))
    ∙ sum_cong [] add 8 _ _ (λ j h. sum_cong [] add 8 _ _ (λ i l. ap (scale (x j i)) (mul_comm (factor u i) (factor v j))))

left_right-sum : (x : ℕ → ℕ → ℤ) (u v : ℕ) → v < 8 → double_sum (λ i j. x i (7 - j)) u v ≡ scale (mirror_sign v) (double_sum x u v)
unfolding double_sum_by
left_right-sum x u v h =
    sum_cong [] add 8 _ _ (λ i l. sum_reverse [] add elements 8 (term i) ∙ sum_cong [] add 8 _ _ (λ j m. item i j m))
    ∙ sym (linear_double_sum (scale (mirror_sign v)) (linear_scale (mirror_sign v)) (λ i j. scale (x i j) (mul (factor u i) (factor v j))))
  where
    term : ℕ → ℕ → List ℤ
    term i j = scale (x i (7 - j)) (mul (factor u i) (factor v j))

    item : (i j : ℕ) → j < 8 → term i (8 - suc j) ≡ scale (mirror_sign v) (scale (x i j) (mul (factor u i) (factor v j)))
    item i j m =
        let column : 7 - (8 - suc j) ≡ j = omega arith in
        let place : 8 - suc j ≡ 7 - j = omega arith in
        ap₂ scale (ap (x i) column) (ap (mul (factor u i)) (ap (factor v) place ∙ mirrored v j h m) ∙ (mul_right (factor u i)).multiples (mirror_sign v) (factor v j))
        ∙ sym ((linear_scale (mirror_sign v)).multiples (x i j) (mul (factor u i) (factor v j)))

top_bottom-sum : (x : ℕ → ℕ → ℤ) (u v : ℕ) → u < 8 → double_sum (λ i j. x (7 - i) j) u v ≡ scale (mirror_sign u) (double_sum x u v)
top_bottom-sum x u v h =
    swapped-sum (λ i j. x (7 - j) i) u v ∙ left_right-sum (λ i j. x j i) v u h ∙ ap (scale (mirror_sign u)) (swapped-sum x v u)

both_sum : (x : ℕ → ℕ → ℤ) (u v : ℕ) → u < 8 → v < 8
    → double_sum (λ i j. x (7 - i) (7 - j)) u v ≡ scale (mirror_sign v *ℤ mirror_sign u) (double_sum x u v)
both_sum x u v h k =
    left_right-sum (λ i j. x (7 - i) j) u v k ∙ ap (scale (mirror_sign v)) (top_bottom-sum x u v h)
    ∙ scale-scale (mirror_sign v) (mirror_sign u) (double_sum x u v)

reoriented-sum : (x : ℕ → ℕ → ℤ) (o p : ℕ) → o < orientations → p < places
    → double_sum (reoriented o x) (p / 8) (p % 8) ≡ scale (sign o p) (double_sum x (source o p / 8) (source o p % 8))
unfolding reoriented source sign
reoriented-sum x o p h l =
    listed_8 x (λ o y. double_sum y u v ≡ scale (sign o p) (double_sum x (source o p / 8) (source o p % 8)))
    (sym (scale_one (double_sum x u v))) (left_right-sum x u v v_below) (top_bottom-sum x u v u_below) (both_sum x u v u_below v_below)
    (after_swap (pos 1) (sym (scale_one (double_sum swapped u v)))) (after_swap (mirror_sign v) (left_right-sum swapped u v v_below))
    (after_swap (mirror_sign u) (top_bottom-sum swapped u v u_below)) (after_swap (mirror_sign v *ℤ mirror_sign u) (both_sum swapped u v u_below v_below)) o h
  where
    u : ℕ
    u = p / 8

    v : ℕ
    v = p % 8

    u_below : u < 8
    u_below = omega arith

    v_below : v < 8
    v_below = omega arith

    swapped : ℕ → ℕ → ℤ
    swapped i j = x j i

    after_swap : {a : List ℤ} (s : ℤ) → a ≡ scale s (double_sum swapped u v) → a ≡ scale s (double_sum x ((8 * v + u) / 8) ((8 * v + u) % 8))
    after_swap s e =
        let row : (8 * v + u) / 8 ≡ v = omega arith in
        let column : (8 * v + u) % 8 ≡ u = omega arith in
        rw (row, column) (e ∙ ap (scale s) (swapped-sum x u v))

-- a block in a buffer

-- what stands at index q
abbrev at : ℕ → List ℤ → ℕ → ℤ
at o x q = reoriented o (sample_at x) (q / 8) (q % 8)

pub length-block : (o : ℕ) (x : List ℤ) → length (reoriented_block o x) ≡ places
unfolding reoriented_block
length-block o x = length-table places (at o x)

-- its samples are those of the block, each at its place
sample-reoriented : (o : ℕ) (x : List ℤ) (q : ℕ) → o < orientations → q < places → sample (reoriented_block o x) q ≡ sample x (sample_source o q)
unfolding reoriented_block
sample-reoriented o x q h l = get_d_table places (at o x) (pos 0) q l ∙ reoriented-index (sample x) o q h

pub block_in_range : (o : ℕ) (x : List ℤ) → o < orientations → AllInRange 2 x → AllInRange 2 (reoriented_block o x)
block_in_range o x h range = record { at = λ q l. rw (sample-reoriented o x q h l) (range.at (sample_source o q) (sample-below o q h l)) }

-- one orientation after another is the one that the table names
pub blocks-one_after_another : (a b : ℕ) (x : List ℤ) → a < orientations → b < orientations
    → reoriented_block b (reoriented_block a x) ≡ reoriented_block (composed a b) x
unfolding reoriented_block
blocks-one_after_another a b x h k =
    table_ext places _ _ (λ q l.
    reoriented-index (sample (reoriented_block a x)) b q k ∙ sample-reoriented a x (sample_source b q) h (sample-below b q k l)
    ∙ ap (sample x) (composed-sample a b h k q l) ∙ sym (reoriented-index (sample x) (composed a b) q (composed-below a b h k)))

-- its elements

row_and_column : (o : ℕ) (x : List ℤ) (i j : ℕ) → i < 8 → j < 8 → sample (reoriented_block o x) (8 * i + j) ≡ reoriented o (sample_at x) i j
unfolding reoriented_block
row_and_column o x i j h l =
    let row : (8 * i + j) / 8 ≡ i = omega arith in
    let column : (8 * i + j) % 8 ≡ j = omega arith in
    get_d_table places (at o x) (pos 0) (8 * i + j) (omega arith) ∙ rw (row, column)

element-reoriented_block : (o : ℕ) (x : List ℤ) (p : ℕ) → o < orientations → p < places
    → element 2 (sample (reoriented_block o x)) p ≡ scale (sign o p) (element 2 (sample x) (source o p))
element-reoriented_block o x p h l =
    element_by-number eight_factor (sample (reoriented_block o x)) p l
    ∙ double_sum_cong factor (sample_at (reoriented_block o x)) (reoriented o (sample_at x)) (p / 8) (p % 8) (row_and_column o x)
    ∙ reoriented-sum (sample_at x) o p h l ∙ ap (scale (sign o p)) (sym (element_by-number eight_factor (sample x) (source o p) (source-below o p h l)))

pub elements_of-block : (o : ℕ) (x : List ℤ) → o < orientations → elements_of 2 (reoriented_block o x) ≡ reoriented_elements o (elements_of 2 x)
unfolding elements_by reoriented_elements
elements_of-block o x h =
    table_ext components_size _ _ (λ i l.
    let p : i / 8 < places = omega arith in
    ap (λ a. component a (i % 8)) (element-reoriented_block o x (i / 8) h p
    ∙ ap (scale (sign o (i / 8))) (sym (element_of eight_factor 2 x (source o (i / 8)) (source-below o (i / 8) h p)))))
