-- Where samples and elements come from, and with which sign: tests that are computed, over all orientations and places, and over all pairs of
-- orientations.
use Rattle.std.specs.Prelude.{◌≡◌, ◌&&◌, ◌+◌, ◌*◌, ◌/◌, ◌%◌, ◌<◌, ◌*ℤ◌}
use Rattle.integers.specs.Kit.{refl, Bool, cond, not, ℕ, T, eqb, ltb, ℤ, pos, negsuc, nat_abs}
use mathlib.Core.Bool.{beq}
use lib.Dec.{eqb→eq, ltb→lt}
use mir.Facts.{and_yes}
use Rattle.integers.specs.Test.{every, eq_z, every₂}
use Rattle.integers.proofs.Tables.{listed_8}
use Rattle.integers.proofs.Tests.{every-at, every₂-at, eq_z→≡}
use Rattle.limits.specs.Limits.{places}
use Rattle.orientations.specs.Orientation.{orientations, reoriented, sample_source, source, sign, composed, samples_at, sources_at, signs_at, rule_at, rule}

-- an orientation goes by places, whatever stands there
pub reoriented-index : {A : Type 0} (x : ℕ → A) (o q : ℕ) → o < orientations → reoriented o (λ i j. x (8 * i + j)) (q / 8) (q % 8) ≡ x (sample_source o q)
unfolding reoriented sample_source
reoriented-index x o q h =
    let index : ℕ → ℕ → ℕ = λ i j. 8 * i + j in
    listed_8 index (λ o y. reoriented o (λ i j. x (8 * i + j)) (q / 8) (q % 8) ≡ x (y (q / 8) (q % 8))) refl refl refl refl refl refl refl refl o h

-- one orientation, at each place

abbrev everywhere : (ℕ → ℕ → Bool) → Bool
everywhere f = every orientations (λ o. every places (f o))

everywhere-at : (f : ℕ → ℕ → Bool) → T (everywhere f) → (o p : ℕ) → o < orientations → p < places → T (f o p)
everywhere-at f t o p h l = every-at places (f o) (every-at orientations (λ o. every places (f o)) t o h) p l

pub sample-below : (o q : ℕ) → o < orientations → q < places → sample_source o q < places
unfolding reoriented sample_source
sample-below o q h l = ltb→lt (sample_source o q) places (everywhere-at (λ o q. ltb (sample_source o q) places) tt o q h l)

pub source-below : (o p : ℕ) → o < orientations → p < places → source o p < places
unfolding source
source-below o p h l = ltb→lt (source o p) places (everywhere-at (λ o p. ltb (source o p) places) tt o p h l)

-- an element that goes to a place comes back from there
pub source-twice : (o p : ℕ) → o < orientations → p < places → source o (source o p) ≡ p
unfolding source
source-twice o p h l = eqb→eq (source o (source o p)) p (everywhere-at (λ o p. eqb (source o (source o p)) p) tt o p h l)

pub sign-one : (o p : ℕ) → o < orientations → p < places → nat_abs (sign o p) ≡ 1
unfolding sign
sign-one o p h l = eqb→eq (nat_abs (sign o p)) 1 (everywhere-at (λ o p. eqb (nat_abs (sign o p)) 1) tt o p h l)

-- the sign as the code makes it
abbrev pub code_sign : ℕ → ℕ → ℤ
code_sign o p =
    let across = eqb (o % 2) 1 && eqb (p % 2) 1 in
    let down = eqb (o / 2 % 2) 1 && eqb (p / 8 % 2) 1 in
    cond (not (beq across down)) (negsuc 0) (pos 1)

pub sign_code : (o p : ℕ) → o < orientations → p < places → sign o p ≡ code_sign o p
unfolding sign
sign_code o p h l = eq_z→≡ (sign o p) (code_sign o p) (everywhere-at (λ o p. eq_z (sign o p) (code_sign o p)) tt o p h l)

-- one orientation after another

composition : T (every₂ orientations rule)
unfolding reoriented sample_source source sign composed
composition = tt

module _ (a b : ℕ) (h : a < orientations) (k : b < orientations) where
  obeys : T (ltb (composed a b) orientations) × T (every places (rule_at a b))
  obeys = and_yes (ltb (composed a b) orientations) (every places (rule_at a b)) (every₂-at orientations rule composition a b h k)

  pub composed-below : composed a b < orientations
  composed-below = ltb→lt (composed a b) orientations obeys.0

  module _ (p : ℕ) (l : p < places) where
    parts : T (samples_at a b p) × T (sources_at a b p && signs_at a b p)
    parts = and_yes (samples_at a b p) (sources_at a b p && signs_at a b p) (every-at places (rule_at a b) obeys.1 p l)

    pub composed-sample : sample_source a (sample_source b p) ≡ sample_source (composed a b) p
    composed-sample = eqb→eq (sample_source a (sample_source b p)) (sample_source (composed a b) p) parts.0

    pub composed-source : source a (source b p) ≡ source (composed a b) p
    composed-source = eqb→eq (source a (source b p)) (source (composed a b) p) (and_yes (sources_at a b p) (signs_at a b p) parts.1).0

    pub composed-sign : sign b p *ℤ sign a (source b p) ≡ sign (composed a b) p
    composed-sign = eq_z→≡ (sign b p *ℤ sign a (source b p)) (sign (composed a b) p) (and_yes (sources_at a b p) (signs_at a b p) parts.1).1
