-- The head of a sheet: what one that is allowed means, and what the search for one answers.
use Rattle.std.specs.Prelude.{◌≡◌, ◌&&◌, ◌*◌, ◌≤◌, ◌<◌, Some, None}
use Rattle.integers.specs.Kit.{refl, Bool, true, false, cond, List, ℕ, zero, suc, T, eqb, ltb, leb, length}
use native.Mathlib.Nat.{mul-pos, mul-zero, zero-mul}
use native.Mathlib.Omega.{arith}
use lib.Dec.{eqb→eq, leb→le}
use mir.Facts.{and_yes}
use borrow.Author.Tests.{eq-eqb, lt-ltb, le-leb}
use Rattle.integers.proofs.Tests.{holds}
use Rattle.limits.specs.Limits.{blocks_limit}
use Rattle.words.specs.Word.{kind, across, down}
use Rattle.sheet_checks.specs.Check.{word_at, blocks, sizes_allowed, has_head, allowed_blocks}

-- a product is above 0 where both of its factors are
pub factors : (a d : ℕ) → 0 < a * d → (1 ≤ a) × (1 ≤ d)
factors zero d h = absurd (omega (arith, rw (zero-mul d) at h))
factors (suc a) zero h = absurd (omega (arith, rw (mul-zero (suc a)) at h))
factors (suc a) (suc d) h = (omega arith, omega arith)

module _ (k : ℕ) (words : List ℕ) where
  -- what a head that is allowed means

  pub head_means : T (has_head k words)
      → (0 < length words) × (kind (word_at words 0) ≡ k) × (1 ≤ across (word_at words 0)) × (1 ≤ down (word_at words 0)) × (blocks words ≤ blocks_limit)
  unfolding has_head
  head_means h =
      let w = word_at words 0 in
      let (some, rest) = and_yes (ltb 0 (length words)) (eqb (kind w) k && sizes_allowed w) h in
      let (same, sizes) = and_yes (eqb (kind w) k) (sizes_allowed w) rest in
      let (a, others) = and_yes (leb 1 (across w)) (leb 1 (down w) && leb (across w * down w) blocks_limit) sizes in
      let (d, few) = and_yes (leb 1 (down w)) (leb (across w * down w) blocks_limit) others in
      (leb→le 1 (length words) some, eqb→eq (kind w) k same, leb→le 1 (across w) a, leb→le 1 (down w) d, leb→le (across w * down w) blocks_limit few)

  pub means_head : 0 < length words → kind (word_at words 0) ≡ k → 1 ≤ across (word_at words 0) → 1 ≤ down (word_at words 0) → blocks words ≤ blocks_limit
      → T (has_head k words)
  unfolding has_head
  means_head some same a d few =
      let w = word_at words 0 in
      rw (lt-ltb 0 (length words) some, eq-eqb (kind w) k same, le-leb 1 (across w) a, le-leb 1 (down w) d, le-leb (blocks words) blocks_limit few) tt

  pub some_blocks : T (has_head k words) → 0 < blocks words
  some_blocks h = let (_, _, a, d, _) = head_means h in mul-pos a d

  -- what the search for one answers

  pub allowed : T (has_head k words) → Some (blocks words) ≡ allowed_blocks k words
  allowed h = rw (holds (has_head k words) h)

  pub not_allowed : (T (has_head k words) → ⊥) → None ≡ allowed_blocks k words
  not_allowed n = go (has_head k words) n
    where
      go : (t : Bool) → (T t → ⊥) → None ≡ cond t (Some (blocks words)) None
      go true n = absurd (n tt)
      go false n = refl

  pub a_head : {n : ℕ} → Some n ≡ allowed_blocks k words → T (has_head k words) × (n ≡ blocks words)
  a_head {n} e = go (has_head k words) e
    where
      go : (t : Bool) → Some n ≡ cond t (Some (blocks words)) None → T t × (n ≡ blocks words)
      go true e = (tt, (cc))
      go false e = absurd (cc)

  pub no_head : None ≡ allowed_blocks k words → has_head k words ≡ false
  no_head e = go (has_head k words) e
    where
      go : (t : Bool) → None ≡ cond t (Some (blocks words)) None → t ≡ false
      go true e = absurd (cc)
      go false e = refl
