-- The ways out of the check of the way back, without the names of its generated statement: what it returns.
use Rattle.std.specs.Prelude.{◌≡◌, ◌∷◌, ◌/◌, ◌%◌, ◌<◌}
use Rattle.std.proofs.lemmas.List.{get_or-take, length-take}
use Rattle.integers.specs.Kit.{refl, sym, ap, subst, ◌∙◌, Bool, true, false, List, [], ℕ, T, ltb, ℤ, pos, nat_abs, length, get_or, take}
use native.Mathlib.Nat.{lt_of_lt_of_le}
use native.Mathlib.Omega.{arith}
use borrow.Author.Tests.{lt-ltb, ltb-true}
use Rattle.integers.specs.Range.{beyond, beyond_at}
use Rattle.integers.specs.Search.{any, first}
use Rattle.integers.proofs.Ranges.{beyond-magnitude}
use Rattle.integers.proofs.Search.{at_first, first_below, first_ext}
use Rattle.integers.proofs.Tests.{fails}
use Rattle.limits.specs.Limits.{places, components_size, magnitudes_limit}
use Rattle.ring.specs.Element.{magnitudes}
use Rattle.ring.proofs.Magnitude.{component_le}
use Rattle.elements.specs.Buffer.{element_at}
use Rattle.elements.proofs.Buffers.{number_at}
use Rattle.answers.specs.Answer as answers
use Rattle.answers.specs.Answer.{Returned, Reason, lowest, unless, faulty_at, holds, passes, none_holds, answered, accept, accepted}
use Rattle.answers.proofs.Causes.{some_reason, only_reason, right_length}
use Rattle.element_sets.specs.Sets.{above_limit, AcceptedSet}
use Rattle.element_sets.proofs.Limit.{block-set, none_above}
use Rattle.back_passes.specs.Passes.{Restores, read_size}
use Rattle.back.specs.Back.{candidate, is_block_of, back_causes}
use Rattle.back.specs.Refusal.{refused_returned}
use Rattle.back.proofs.Candidate.{length-candidate, block_facts, only-candidate}

-- the numbers that are read: whether one of them is above the limit by itself

module _ (e : List ℤ) (l : length e ≡ components_size) where
  pub length-read : length (take read_size e) ≡ read_size
  length-read = omega (arith, length-take read_size e)

  pub read_any : any (length (take read_size e)) (beyond_at magnitudes_limit (take read_size e)) ≡ any read_size (beyond_at magnitudes_limit e)
  read_any =
      ap (λ n. any n (beyond_at magnitudes_limit (take read_size e))) length-read
      ∙ ap (λ i. ltb i read_size) (first_ext read_size _ _ (λ k b. ap (beyond magnitudes_limit) (get_or-take read_size e k (pos 0) b)))

-- a number that is above the limit by itself: its element is above the limit

element-above : (e : List ℤ) → any read_size (beyond_at magnitudes_limit e) ≡ true → first places (above_limit magnitudes_limit e) < places
element-above e t = first_below places (above_limit magnitudes_limit e) (i / 8) (omega (arith, below)) (lt-ltb magnitudes_limit (magnitudes (element_at e (i / 8))) sum)
  where
    i : ℕ
    i = first read_size (beyond_at magnitudes_limit e)

    below : i < read_size
    below = ltb-true i read_size t

    large : magnitudes_limit < nat_abs (get_or e i (pos 0))
    large =
        let z = get_or e i (pos 0) in
        ltb-true magnitudes_limit (nat_abs z) (sym (beyond-magnitude magnitudes_limit z) ∙ at_first read_size (beyond_at magnitudes_limit e) below)

    sum : magnitudes_limit < magnitudes (element_at e (i / 8))
    sum = lt_of_lt_of_le large (rw (number_at e i) at (component_le (element_at e (i / 8)) (i % 8)))

-- the ways out of `check`, with room for n samples
module _ (e : List ℤ) (n : ℕ) where
  -- r is what the causes say, and no acceptance
  abbrev Refused : Returned → Type 0
  Refused r = (r ≡ answered (back_causes 2 e n) accept) × (accepted r ≡ false)

  -- with both lengths right
  module _ (l : length e ≡ components_size) (k : n ≡ places) where
    past_lengths : {r : Returned} → Reason accept (lowest places (above_limit magnitudes_limit e) 4 ∷ unless (is_block_of 2 e (candidate 2 e)) 5 ∷ []) r
        → r ≡ answered (back_causes 2 e n) accept
    past_lengths R = only_reason (passes (right_length l) (passes (right_length k) R))

    -- where no block has the elements, they are refused by cause 4 or by cause 5
    refuses : {r : Returned} → r ≡ refused_returned e
        → (((p : ℕ) → p < places → above_limit magnitudes_limit e p ≡ false) → is_block_of 2 e (candidate 2 e) ≡ false) → Refused r
    refuses p none = rw p (by (some_reason (lowest places (above_limit magnitudes_limit e) 4 ∷ []) (record { number = 5; place = 0 })))
      where
        by : {r : Returned} → Reason (record { number = 5; place = 0 }) (lowest places (above_limit magnitudes_limit e) 4 ∷ []) r → Refused r
        by (holds (faulty_at i h before t)) = (past_lengths (holds (faulty_at i h before t)), refl)
        by (passes p none_holds) = (past_lengths (passes p (holds (answers.fails (none p)))), refl)

    -- a number is above the limit by itself
    pub too_large : {r : Returned} → r ≡ refused_returned e → any read_size (beyond_at magnitudes_limit e) ≡ true → Refused r
    too_large p t =
        refuses p (λ none. let h = element-above e t in
        absurd (subst T (sym (at_first places (above_limit magnitudes_limit e) h) ∙ none (first places (above_limit magnitudes_limit e)) h) tt))

    -- y is the block that the passes restore, and t whether it has the elements
    module _ {y : List ℤ} {t : Bool} (b : t ≡ is_block_of 2 e y) where
      -- the candidate would be y
      pub no_block : Restores e y → {r : Returned} → r ≡ refused_returned e → t ≡ false → Refused r
      no_block R p n = refuses p (λ none. fails (is_block_of 2 e (candidate 2 e)) none_has)
        where
          none_has : T (is_block_of 2 e (candidate 2 e)) → ⊥
          none_has h =
              let same : y ≡ candidate 2 e = R.restores (candidate 2 e) (length-candidate 2 e) (block_facts 2 e (candidate 2 e) h).1 in
              subst T (ap (is_block_of 2 e) (sym same) ∙ sym b ∙ n) h

      -- a block's set is within the limit
      pub found_block : length y ≡ places → t ≡ true → (accept ≡ answered (back_causes 2 e n) accept) × (y ≡ candidate 2 e)
      found_block size n =
          let yes : T (is_block_of 2 e y) = subst T (sym n ∙ b) tt in
          let (range, has) = block_facts 2 e y yes in
          let set : AcceptedSet places magnitudes_limit e = rw has at (block-set 1 y range) in
          let same : candidate 2 e ≡ y = only-candidate 2 e y size has in
          (past_lengths (passes (none_above set) (passes (rw same yes) none_holds)), sym same)
