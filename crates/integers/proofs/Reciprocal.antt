-- Quotients by a table of reciprocals (Granlund and Montgomery): n / s as n·M / D, with one product and, where D is a power of 2, one shift.
-- For request 7 of 02; no job uses it yet.
use Rattle.std.specs.Prelude.{◌≡◌, ◌+◌, ◌*◌, ◌-◌, ◌/◌, ◌≤◌, ◌<◌}
use Rattle.integers.specs.Kit.{sym, ap, ◌∙◌, ℕ, T, leb, ltb}
use native.Mathlib.Nat.{lt_of_not-le, mul-le-mul_left, mul-le-mul_right, div-eq_of_lt-le, div-div-eq-div-mul, mul-div-mul_right}
use native.Mathlib.Omega.{arith}
use lib.Dec.{leb→le, ltb→lt}
use mir.Facts.{and_yes}
use Rattle.integers.specs.Test.{reciprocal}

pub by_reciprocal : (B D s M : ℕ) → T (reciprocal B D s M) → (n : ℕ) → n ≤ B → n * M / D ≡ n / s
by_reciprocal B D s M t n h =
    let (low, high) = and_yes (leb D (M * s)) (ltb (B * (M * s)) ((B + 1) * D)) t in
    let l = leb→le D (M * s) low in
    let k = ltb→lt (B * (M * s)) ((B + 1) * D) high in
    let e = M * s - D in
    let split : M * s ≡ D + e = omega arith in
    let positive : 0 < D = lt_of_not-le (λ z. omega (arith, mul-le-mul_left (B + 1) z)) in
    let some : 0 < s = lt_of_not-le (λ z. omega (arith, mul-le-mul_left M z)) in
    let below : n * M * s < (n + 1) * D = omega (arith, ap (λ (a : ℕ). n * a) split, ap (λ (a : ℕ). B * a) split, mul-le-mul_right e h) in
    sym (mul-div-mul_right (n * M) D some) ∙ sym (div-div-eq-div-mul (n * M * s) D s)
    ∙ ap (λ (q : ℕ). q / s) (div-eq_of_lt-le D (omega (arith, mul-le-mul_left n l)) below)
