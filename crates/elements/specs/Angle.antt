-- Which of c_1 to c_7 a cosine c_m is, and with which sign, for m no multiple of 8 (01, the rules of the cosines).
use Rattle.std.specs.Prelude.{◌-◌, ◌%◌}
use Rattle.integers.specs.Kit.{cond, ℕ, ltb, ℤ, neg_ℤ}

-- c_m is c_k or -c_k for this k: c_(16+m) = -c_m and c_(16-m) = -c_m
abbrev pub index : ℕ → ℕ
index m = cond (ltb (m % 16) 8) (m % 16) (16 - m % 16)

-- s where c_m is c_k, and -s where it is -c_k
abbrev pub signed : ℤ → ℕ → ℤ
signed s m = cond (ltb (m % 32) 8) s (cond (ltb (m % 32) 24) (neg_ℤ s) s)
