-- Sums, multiples and combinations of elements, and linear maps. All laws hold of lists of any length.
use Rattle.std.specs.Prelude.{◌≡◌, ◌∷◌, ◌<◌, ◌+ℤ◌, ◌*ℤ◌}
use Rattle.integers.specs.Kit.{refl, sym, ap, ap₂, ◌∙◌, List, [], ℕ, zero, suc, ℤ, pos, length}
use mathlib.Core.Path.{fun_ext}
use native.Mathlib.Omega.{arith}
use lib.IntN.{+ℤ_comm, +ℤ_assoc, *ℤ_comm}
use Rattle.integers.specs.Sum.{sum}
use Rattle.integers.proofs.Integer.{*ℤ_pos1, *ℤ_assoc, *ℤ-+ℤ, +ℤ-*ℤ}
use Rattle.integers.proofs.Sums.{CommutativeMonoid, swap, sum_map}
use Rattle.ring.specs.Element.{add, scale, combine}
pub use Rattle.ring.specs.Maps.{Linear, LinearMap, LinearForm}

-- sums and multiples

pub add_nil : (a : List ℤ) → add a [] ≡ a
add_nil [] = refl
add_nil (x ∷ a) = refl

pub add_comm : (a b : List ℤ) → add a b ≡ add b a
add_comm [] b = sym (add_nil b)
add_comm (x ∷ a) [] = refl
add_comm (x ∷ a) (y ∷ b) = ap₂ ◌∷◌ (+ℤ_comm x y) (add_comm a b)

pub add_assoc : (a b c : List ℤ) → add (add a b) c ≡ add a (add b c)
add_assoc [] b c = refl
add_assoc (x ∷ a) [] c = refl
add_assoc (x ∷ a) (y ∷ b) [] = refl
add_assoc (x ∷ a) (y ∷ b) (z ∷ c) = ap₂ ◌∷◌ (+ℤ_assoc x y z) (add_assoc a b c)

pub elements : CommutativeMonoid [] add
elements = record { comm = add_comm; assoc = add_assoc; unit = λ a. refl }

pub scale-add : (s : ℤ) (a b : List ℤ) → scale s (add a b) ≡ add (scale s a) (scale s b)
scale-add s [] b = refl
scale-add s (x ∷ a) [] = refl
scale-add s (x ∷ a) (y ∷ b) = ap₂ ◌∷◌ (*ℤ-+ℤ s x y) (scale-add s a b)

pub add-scale : (s t : ℤ) (a : List ℤ) → scale (s +ℤ t) a ≡ add (scale s a) (scale t a)
add-scale s t [] = refl
add-scale s t (x ∷ a) = ap₂ ◌∷◌ (+ℤ-*ℤ s t x) (add-scale s t a)

pub scale-scale : (s t : ℤ) (a : List ℤ) → scale s (scale t a) ≡ scale (s *ℤ t) a
scale-scale s t [] = refl
scale-scale s t (x ∷ a) = ap₂ ◌∷◌ (sym (*ℤ_assoc s t x)) (scale-scale s t a)

pub scale_one : (a : List ℤ) → scale (pos 1) a ≡ a
scale_one [] = refl
scale_one (x ∷ a) = ap₂ ◌∷◌ (*ℤ_comm (pos 1) x ∙ *ℤ_pos1 x) (scale_one a)

-- linear maps, into elements or into whole numbers

pub linear_self : LinearMap (λ a. a)
linear_self = record { nil = refl; sums = λ a b. refl; multiples = λ s a. refl }

pub linear_scale : (s : ℤ) → LinearMap (scale s)
linear_scale s = record {
  nil = refl;
  sums = scale-add s;
  multiples = λ t a. scale-scale s t a ∙ ap (λ (u : ℤ). scale u a) (*ℤ_comm s t) ∙ sym (scale-scale t s a);
}

pub linear_after : {L M : List ℤ → List ℤ} → LinearMap L → LinearMap M → LinearMap (λ a. L (M a))
linear_after {L} {M} l m = record {
  nil = ap L m.nil ∙ l.nil;
  sums = λ a b. ap L (m.sums a b) ∙ l.sums (M a) (M b);
  multiples = λ s a. ap L (m.multiples s a) ∙ l.multiples s (M a);
}

-- a linear map goes through a sum, and through a combination
pub linear_sum : (L : List ℤ → List ℤ) → LinearMap L → (n : ℕ) (f : ℕ → List ℤ) → L (sum [] add n f) ≡ sum [] add n (λ k. L (f k))
linear_sum L l n f = sum_map [] add [] add L l.nil l.sums n f

pub linear_combine : (L : List ℤ → List ℤ) → LinearMap L → (f : ℕ → List ℤ) (a : List ℤ) → L (combine f a) ≡ combine (λ k. L (f k)) a
linear_combine L l f [] = l.nil
linear_combine L l f (x ∷ a) =
    l.sums (scale x (f zero)) (combine (λ k. f (suc k)) a) ∙ ap₂ add (l.multiples x (f zero)) (linear_combine L l (λ k. f (suc k)) a)

-- two linear maps that agree at f 0, f 1, ... agree at a combination of them
pub linear_agree : {B : Type 0} {none : B} {plus : B → B → B} {times : ℤ → B → B} (L M : List ℤ → B) → Linear none plus times L → Linear none plus times M
    → (f : ℕ → List ℤ) (a : List ℤ) → ((k : ℕ) → k < length a → L (f k) ≡ M (f k)) → L (combine f a) ≡ M (combine f a)
linear_agree L M l m f [] h = l.nil ∙ sym m.nil
linear_agree {plus = plus} {times = times} L M l m f (x ∷ a) h =
    let head = scale x (f zero) in
    let rest = combine (λ k. f (suc k)) a in
    l.sums head rest
    ∙ ap₂ plus (l.multiples x (f zero) ∙ ap (times x) (h zero (omega arith)) ∙ sym (m.multiples x (f zero)))
    (linear_agree L M l m (λ k. f (suc k)) a (λ k b. h (suc k) (omega arith)))
    ∙ sym (m.sums head rest)

-- combinations

combine-add : (f : ℕ → List ℤ) (a b : List ℤ) → combine f (add a b) ≡ add (combine f a) (combine f b)
combine-add f [] b = refl
combine-add f (x ∷ a) [] = sym (add_nil (combine f (x ∷ a)))
combine-add f (x ∷ a) (y ∷ b) =
    let g : ℕ → List ℤ = λ k. f (suc k) in
    rw (add-scale x y (f zero), combine-add g a b) (swap add add_comm add_assoc (scale x (f zero)) (scale y (f zero)) (combine g a) (combine g b))

combine-scale : (f : ℕ → List ℤ) (s : ℤ) (a : List ℤ) → combine f (scale s a) ≡ scale s (combine f a)
combine-scale f s [] = refl
combine-scale f s (x ∷ a) =
    let g : ℕ → List ℤ = λ k. f (suc k) in
    rw (← (scale-scale s x (f zero)), combine-scale g s a) (sym (scale-add s (scale x (f zero)) (combine g a)))

pub linear_combination : (f : ℕ → List ℤ) → LinearMap (combine f)
linear_combination f = record { nil = refl; sums = combine-add f; multiples = combine-scale f }

combine-plus : (f g : ℕ → List ℤ) (a : List ℤ) → combine (λ k. add (f k) (g k)) a ≡ add (combine f a) (combine g a)
combine-plus f g [] = refl
combine-plus f g (x ∷ a) =
    let f' : ℕ → List ℤ = λ k. f (suc k) in
    let g' : ℕ → List ℤ = λ k. g (suc k) in
    rw (scale-add x (f zero) (g zero), combine-plus f' g' a)
    (swap add add_comm add_assoc (scale x (f zero)) (scale x (g zero)) (combine f' a) (combine g' a))

pub combine_nil : (a : List ℤ) → combine (λ k. []) a ≡ []
combine_nil [] = refl
combine_nil (x ∷ a) = combine_nil a

pub combine_cong : {f g : ℕ → List ℤ} → ((k : ℕ) → f k ≡ g k) → (a : List ℤ) → combine f a ≡ combine g a
combine_cong h a = ap (λ e. combine e a) (fun_ext h)

-- the order of two combinations does not matter
pub combine_swap : (f : ℕ → ℕ → List ℤ) (a b : List ℤ) → combine (λ i. combine (f i) b) a ≡ combine (λ j. combine (λ i. f i j) a) b
combine_swap f [] b = sym (combine_nil b)
combine_swap f (x ∷ a) b =
    rw (combine_swap (λ i. f (suc i)) a b, combine-plus (λ j. scale x (f zero j)) (λ j. combine (λ i. f (suc i) j) a) b, linear_combine (scale x) (linear_scale x) (f zero) b)
