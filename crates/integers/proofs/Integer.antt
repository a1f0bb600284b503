-- The integers as an ordered commutative ring.
-- No tactic reads ℤ. So an integer is written as a difference of two naturals, `dif a b`, which is opaque; the rules below carry
-- +, -, *, ≡ and ≤ over to naturals, and each law is then one call of `omega`.
use Rattle.std.specs.Prelude.{◌≡◌, ◌+◌, ◌*◌, ◌-◌, ◌≤◌, ◌<◌, ◌+ℤ◌, ◌-ℤ◌, ◌*ℤ◌}
use Rattle.integers.specs.Kit.{sym, ap, ◌∙◌, Bool, true, false, not, cond, ℕ, zero, suc, T, ltb, ℤ, pos, negsuc, neg_ℤ, nat_abs}
use mathlib.Core.Logic.{◌↔◌, ◌⊎◌, inl, inr}
use native.Mathlib.Nat.{eq_of_mul-eq-mul_left, mul-le-mul, mul-le-mul_left, mul-lt-mul_of_pos_left, lt_of_mul-lt-mul_left}
use native.Mathlib.Decide.{dec_le, dec_lt}
use native.Mathlib.Omega.{arith}
use lib.Dec.{ltb→lt, lt→ltb, nltb→le, leb→le, le→leb, nleb→lt}
use lib.IntN.{sub_ℕ, one, *ℤ-one, *ℤ_comm}
use lib.Signed.{◌≤ℤ◌, ◌<ℤ◌, le_z}

-- an integer as a difference

pub dif : ℕ → ℕ → ℤ
dif a b = sub_ℕ a b

-- the positive part max(z, 0) and the negative part max(-z, 0): z = up z - down z

abbrev pub up : ℤ → ℕ
up (pos n) = n
up (negsuc n) = zero

abbrev pub down : ℤ → ℕ
down (pos n) = zero
down (negsuc n) = suc n

cond_ind : (c : Bool) (x y : ℤ) (P : ℤ → Type 0) → (T c → P x) → (T (not c) → P y) → P (cond c x y)
cond_ind true x y P f g = f tt
cond_ind false x y P f g = g tt

-- what a statement of `dif a b` asks: the two cases of the order of a and b
by_order : (a b : ℕ) (P : ℤ → Type 0) → ((n : ℕ) → a ≡ b + n → P (pos n)) → ((n : ℕ) → b ≡ a + suc n → P (negsuc n)) → P (dif a b)
unfolding dif
by_order a b P f g =
    cond_ind (ltb a b) (negsuc (b - suc a)) (pos (a - b)) P
    (λ t. let h : a < b = ltb→lt a b t in g (b - suc a) (omega arith))
    (λ t. let h : b ≤ a = nltb→le a b t in f (a - b) (omega arith))

-- equal differences are the same integer
pub dif_same : (a b c d : ℕ) → a + d ≡ c + b → dif a b ≡ dif c d
dif_same a b c d e =
    by_order a b (λ z. z ≡ dif c d)
    (λ n p. by_order c d (λ z. pos n ≡ z) (λ m q. ap pos (omega arith)) (λ m q. absurd (omega arith)))
    (λ n p. by_order c d (λ z. negsuc n ≡ z) (λ m q. absurd (omega arith)) (λ m q. ap negsuc (omega arith)))

-- a and b are the positive and the negative part of a - b, each with a common k added
common : (a b : ℕ) → (k : ℕ) × (a ≡ up (dif a b) + k) × (b ≡ down (dif a b) + k)
common a b =
    by_order a b (λ z. (k : ℕ) × (a ≡ up z + k) × (b ≡ down z + k))
    (λ n p. (b, omega arith, omega arith))
    (λ n p. (a, omega arith, omega arith))

dif_pos : (n : ℕ) → pos n ≡ dif n zero
dif_pos n = by_order n zero (λ z. pos n ≡ z) (λ m q. ap pos (omega arith)) (λ m q. absurd (omega arith))

dif_negsuc : (n : ℕ) → negsuc n ≡ dif zero (suc n)
dif_negsuc n = by_order zero (suc n) (λ z. negsuc n ≡ z) (λ m q. absurd (omega arith)) (λ m q. ap negsuc (omega arith))

pub as_dif : (z : ℤ) → z ≡ dif (up z) (down z)
as_dif (pos n) = dif_pos n
as_dif (negsuc n) = dif_negsuc n

-- the operations

neg_parts : (z : ℤ) → neg_ℤ z ≡ dif (down z) (up z)
neg_parts (pos zero) = dif_pos zero
neg_parts (pos (suc n)) = dif_negsuc n
neg_parts (negsuc n) = dif_pos (suc n)

pub add_parts : (z w : ℤ) → z +ℤ w ≡ dif (up z + up w) (down z + down w)
unfolding dif
add_parts (pos a) (pos b) = dif_pos (a + b) ∙ dif_same (a + b) 0 (a + b) (0 + 0) (omega arith)
add_parts (pos a) (negsuc b) = dif_same a (suc b) (a + 0) (0 + suc b) (omega arith)
add_parts (negsuc a) (pos b) = dif_same b (suc a) (0 + b) (suc a + 0) (omega arith)
add_parts (negsuc a) (negsuc b) = dif_negsuc (suc (a + b)) ∙ dif_same 0 (suc (suc (a + b))) (0 + 0) (suc a + suc b) (omega arith)

mul-parts : (z w : ℤ) → z *ℤ w ≡ dif (up z * up w + down z * down w) (up z * down w + down z * up w)
mul-parts (pos a) (pos b) = dif_pos (a * b) ∙ dif_same _ _ _ _ (omega arith)
mul-parts (pos a) (negsuc b) = neg_parts (pos (a * suc b)) ∙ dif_same _ _ _ _ (omega arith)
mul-parts (negsuc a) (pos b) = neg_parts (pos (suc a * b)) ∙ dif_same _ _ _ _ (omega arith)
mul-parts (negsuc a) (negsuc b) = dif_pos (suc a * suc b) ∙ dif_same _ _ _ _ (omega arith)

pub dif_neg : (a b : ℕ) → neg_ℤ (dif a b) ≡ dif b a
dif_neg a b = let (k, p, q) = common a b in neg_parts (dif a b) ∙ dif_same _ _ _ _ (omega arith)

pub dif_add : (a b c d : ℕ) → dif a b +ℤ dif c d ≡ dif (a + c) (b + d)
dif_add a b c d =
    let (k, p, q) = common a b in
    let (l, r, s) = common c d in
    add_parts (dif a b) (dif c d) ∙ dif_same _ _ _ _ (omega arith)

product-same : (u v w x k l a b c d : ℕ) → a ≡ u + k → b ≡ v + k → c ≡ w + l → d ≡ x + l
    → u * w + v * x + (a * d + b * c) ≡ a * c + b * d + (u * x + v * w)
product-same u v w x k l a b c d p q r s = rw (p, q, r, s) (omega arith)

pub dif_mul : (a b c d : ℕ) → dif a b *ℤ dif c d ≡ dif (a * c + b * d) (a * d + b * c)
dif_mul a b c d =
    let (k, p, q) = common a b in
    let (l, r, s) = common c d in
    mul-parts (dif a b) (dif c d) ∙ dif_same _ _ _ _ (product-same _ _ _ _ k l a b c d p q r s)

-- the order

le_parts : (z w : ℤ) → (z ≤ℤ w) ↔ (up z + down w ≤ up w + down z)
le_parts (pos a) (pos b) = (λ h. let k : a ≤ b = leb→le a b h.le in omega arith, λ h. record { le = le→leb a b (omega arith) })
le_parts (pos a) (negsuc b) = (λ h. absurd h.le, λ h. absurd (omega arith))
le_parts (negsuc a) (pos b) = (λ h. omega arith, λ h. record { le = tt })
le_parts (negsuc a) (negsuc b) = (λ h. let k : b ≤ a = leb→le b a h.le in omega arith, λ h. record { le = le→leb b a (omega arith) })

pub dif_le : (a b c d : ℕ) → (dif a b ≤ℤ dif c d) ↔ (a + d ≤ c + b)
dif_le a b c d =
    let (k, p, q) = common a b in
    let (l, r, s) = common c d in
    (λ h. let t = (le_parts (dif a b) (dif c d)).0 h in omega arith, λ h. (le_parts (dif a b) (dif c d)).1 (omega arith))

lt_parts : (z w : ℤ) → (z <ℤ w) ↔ (up z + down w < up w + down z)
lt_parts (pos a) (pos b) = (λ h. let k : a < b = ltb→lt a b h.lt in omega arith, λ h. record { lt = lt→ltb a b (omega arith) })
lt_parts (pos a) (negsuc b) = (λ h. absurd h.lt, λ h. absurd (omega arith))
lt_parts (negsuc a) (pos b) = (λ h. omega arith, λ h. record { lt = tt })
lt_parts (negsuc a) (negsuc b) = (λ h. let k : b < a = ltb→lt b a h.lt in omega arith, λ h. record { lt = lt→ltb b a (omega arith) })

pub dif_lt : (a b c d : ℕ) → (dif a b <ℤ dif c d) ↔ (a + d < c + b)
dif_lt a b c d =
    let (k, p, q) = common a b in
    let (l, r, s) = common c d in
    (λ h. let t = (lt_parts (dif a b) (dif c d)).0 h in omega arith, λ h. (lt_parts (dif a b) (dif c d)).1 (omega arith))

pub dif_nat_abs : (a b n : ℕ) → (nat_abs (dif a b) ≤ n) ↔ ((a ≤ b + n) × (b ≤ a + n))
dif_nat_abs a b n =
    by_order a b (λ z. (nat_abs z ≤ n) ↔ ((a ≤ b + n) × (b ≤ a + n))) (λ m p. omega arith) (λ m p. omega arith)

-- the converse of `dif_same`
pub same_dif : (a b c d : ℕ) → dif a b ≡ dif c d → a + d ≡ c + b
same_dif a b c d e =
    let (k, p, q) = common a b in
    let (l, r, s) = common c d in
    let u : up (dif a b) ≡ up (dif c d) = ap up e in
    let v : down (dif a b) ≡ down (dif c d) = ap down e in
    omega arith

-- the ring: each variable as a difference, the rules, and `omega`. What is not here `lib.IntN` has

pub ruleset difs = (dif_add, dif_mul, dif_neg)

pub *ℤ_assoc : (a b c : ℤ) → (a *ℤ b) *ℤ c ≡ a *ℤ (b *ℤ c)
*ℤ_assoc a b c = rw (as_dif a, as_dif b, as_dif c) (simp difs (dif_same _ _ _ _ (omega arith)))

pub *ℤ-+ℤ : (a b c : ℤ) → a *ℤ (b +ℤ c) ≡ a *ℤ b +ℤ a *ℤ c
*ℤ-+ℤ a b c = rw (as_dif a, as_dif b, as_dif c) (simp difs (dif_same _ _ _ _ (omega arith)))

pub +ℤ-*ℤ : (a b c : ℤ) → (a +ℤ b) *ℤ c ≡ a *ℤ c +ℤ b *ℤ c
+ℤ-*ℤ a b c = rw (as_dif a, as_dif b, as_dif c) (simp difs (dif_same _ _ _ _ (omega arith)))

pub *ℤ_pos1 : (a : ℤ) → a *ℤ pos 1 ≡ a
unfolding one
*ℤ_pos1 a = *ℤ-one a

pub *ℤ-neg_ℤ : (a b : ℤ) → a *ℤ neg_ℤ b ≡ neg_ℤ (a *ℤ b)
*ℤ-neg_ℤ a b = rw (as_dif a, as_dif b) (simp difs (dif_same _ _ _ _ (omega arith)))

pub minus-one-*ℤ : (a : ℤ) → negsuc 0 *ℤ a ≡ neg_ℤ a
minus-one-*ℤ a = rw (as_dif a, as_dif (negsuc 0)) (simp difs (dif_same _ _ _ _ (omega arith)))

pub *ℤ-minus-one : (a : ℤ) → a *ℤ negsuc 0 ≡ neg_ℤ a
*ℤ-minus-one a = *ℤ_comm a (negsuc 0) ∙ minus-one-*ℤ a

pub neg_ℤ_sub : (a b : ℤ) → neg_ℤ (a -ℤ b) ≡ b -ℤ a
neg_ℤ_sub a b = rw (as_dif a, as_dif b) (simp difs (dif_same _ _ _ _ (omega arith)))

pub sub_sub : (a b : ℤ) → a -ℤ (a -ℤ b) ≡ b
sub_sub a b = rw (as_dif a, as_dif b) (simp difs (dif_same _ _ _ _ (omega arith)))

-- a positive factor cancels
pub *ℤ_cancel : {n : ℕ} → 0 < n → {a b : ℤ} → pos n *ℤ a ≡ pos n *ℤ b → a ≡ b
*ℤ_cancel {n} h {a} {b} e =
    let q = same_dif _ _ _ _ (sym (mul-parts (pos n) a) ∙ e ∙ mul-parts (pos n) b) in
    let r : n * (up a + down b) ≡ n * (up b + down a) = omega arith in
    let t = eq_of_mul-eq-mul_left n h (up a + down b) (up b + down a) r in
    rw (as_dif a, as_dif b) (dif_same _ _ _ _ t)

-- the order

pub ≤ℤ_trans : {a b c : ℤ} → a ≤ℤ b → b ≤ℤ c → a ≤ℤ c
≤ℤ_trans {a} {b} {c} h k =
    let p = (le_parts a b).0 h in
    let q = (le_parts b c).0 k in
    (le_parts a c).1 (omega arith)

pub ≤ℤ_antisym : {a b : ℤ} → a ≤ℤ b → b ≤ℤ a → a ≡ b
≤ℤ_antisym {a} {b} h k =
    let p = (le_parts a b).0 h in
    let q = (le_parts b a).0 k in
    rw (as_dif a, as_dif b) (dif_same _ _ _ _ (omega arith))

pub ≤ℤ-total : (a b : ℤ) → (a ≤ℤ b) ⊎ (b ≤ℤ a)
≤ℤ-total a b = go (dec_le (up a + down b) (up b + down a))
  where
    go : Dec (up a + down b ≤ up b + down a) → (a ≤ℤ b) ⊎ (b ≤ℤ a)
    go (yes h) = inl ((le_parts a b).1 h)
    go (no n) = inr ((le_parts b a).1 (omega arith))

pub +ℤ-≤ℤ : {a b c d : ℤ} → a ≤ℤ b → c ≤ℤ d → (a +ℤ c) ≤ℤ (b +ℤ d)
+ℤ-≤ℤ {a} {b} {c} {d} h k =
    let p = (le_parts a b).0 h in
    let q = (le_parts c d).0 k in
    rw (as_dif a, as_dif b, as_dif c, as_dif d) (simp difs ((dif_le _ _ _ _).1 (omega arith)))

pub neg_ℤ-≤ℤ : {a b : ℤ} → a ≤ℤ b → neg_ℤ b ≤ℤ neg_ℤ a
neg_ℤ-≤ℤ {a} {b} h =
    let p = (le_parts a b).0 h in
    rw (as_dif a, as_dif b) (simp difs ((dif_le _ _ _ _).1 (omega arith)))

-- a factor that is not negative keeps the order
pub *ℤ-≤ℤ : (n : ℕ) {a b : ℤ} → a ≤ℤ b → (pos n *ℤ a) ≤ℤ (pos n *ℤ b)
*ℤ-≤ℤ n {a} {b} h =
    let p = (le_parts a b).0 h in
    rw (as_dif a, as_dif b, as_dif (pos n)) (simp difs ((dif_le _ _ _ _).1 (omega (arith, mul-le-mul_left n p))))

pub ≤ℤ-*ℤ : (n : ℕ) {a b : ℤ} → a ≤ℤ b → (a *ℤ pos n) ≤ℤ (b *ℤ pos n)
≤ℤ-*ℤ n {a} {b} h = rw (*ℤ_comm a (pos n), *ℤ_comm b (pos n)) (*ℤ-≤ℤ n h)

pub pos_≤ℤ : {a b : ℕ} → a ≤ b → pos a ≤ℤ pos b
pos_≤ℤ {a} {b} h = record { le = le→leb a b h }

-- the strict order

pub <ℤ→≤ℤ : {a b : ℤ} → a <ℤ b → a ≤ℤ b
<ℤ→≤ℤ {a} {b} h =
    let p = (lt_parts a b).0 h in
    (le_parts a b).1 (omega arith)

-- a test that failed (`lib.Signed` has `lt_z_no`)
pub le_z_no : {a b : ℤ} → T (not (le_z a b)) → b <ℤ a
le_z_no {a = pos a} {b = pos b} t = record { lt = lt→ltb b a (nleb→lt a b t) }
le_z_no {a = pos a} {b = negsuc b} t = record { lt = tt }
le_z_no {a = negsuc a} {b = pos b} t = absurd t
le_z_no {a = negsuc a} {b = negsuc b} t = record { lt = lt→ltb a b (nleb→lt b a t) }

-- a positive factor keeps the strict order, and cancels
pub *ℤ-<ℤ : {n : ℕ} → 0 < n → {a b : ℤ} → a <ℤ b → (pos n *ℤ a) <ℤ (pos n *ℤ b)
*ℤ-<ℤ {n} h {a} {b} k =
    let p = (lt_parts a b).0 k in
    rw (as_dif a, as_dif b, as_dif (pos n)) (simp difs ((dif_lt _ _ _ _).1 (omega (arith, mul-lt-mul_of_pos_left p h))))

pub *ℤ-<ℤ_cancel : (n : ℕ) {a b : ℤ} → (pos n *ℤ a) <ℤ (pos n *ℤ b) → a <ℤ b
*ℤ-<ℤ_cancel n {a} {b} k =
    let p = (dif_lt _ _ _ _).0 (rw (mul-parts (pos n) a, mul-parts (pos n) b) at k) in
    let q : n * (up a + down b) < n * (up b + down a) = omega arith in
    (lt_parts a b).1 (lt_of_mul-lt-mul_left n q)

pub +ℤ-<ℤ_cancel : (c : ℤ) {a b : ℤ} → (a +ℤ c) <ℤ (b +ℤ c) → a <ℤ b
+ℤ-<ℤ_cancel c {a} {b} k =
    let p = (dif_lt _ _ _ _).0 (rw (add_parts a c, add_parts b c) at k) in
    (lt_parts a b).1 (omega arith)

pub neg_ℤ-<ℤ_cancel : {a b : ℤ} → neg_ℤ b <ℤ neg_ℤ a → a <ℤ b
neg_ℤ-<ℤ_cancel {a} {b} k =
    let p = (dif_lt _ _ _ _).0 (rw (neg_parts a, neg_parts b) at k) in
    (lt_parts a b).1 (omega arith)

-- the smaller square belongs to the smaller number, where the other is not negative
pub square-<ℤ : {a b : ℤ} → pos 0 ≤ℤ b → (a *ℤ a) <ℤ (b *ℤ b) → a <ℤ b
square-<ℤ {a = pos a} {b = pos b} h k = record { lt = go (dec_lt a b) }
  where
    go : Dec (a < b) → T (ltb a b)
    go (yes l) = lt→ltb a b l
    go (no n) = let l : b ≤ a = omega arith in absurd (omega (arith, mul-le-mul l l, ltb→lt (a * a) (b * b) k.lt))
square-<ℤ {a = negsuc a} {b = pos b} h k = record { lt = tt }
square-<ℤ {a = pos a} {b = negsuc b} h k = absurd h.le
square-<ℤ {a = negsuc a} {b = negsuc b} h k = absurd h.le
