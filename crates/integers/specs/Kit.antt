-- The kit's words in which every file here is written, passed on as they are: equality, truth values and tests, natural and whole numbers, lists.
pub use Rattle.std.specs.Prelude.{refl}
pub use Rattle.std.proofs.Common.{sym, ap, subst, ◌∙◌, ap₂}
pub use Rattle.std.specs.Prelude.{Bool, true, false, cond, not, T, eqb, ltb, leb}
pub use Rattle.std.proofs.Common.{lit<, lit≤}
pub use Rattle.std.specs.Prelude.{ℕ, zero, suc}
pub use Rattle.std.specs.Prelude.{nat_abs, ℤ, pos, neg_ℤ, negsuc}
pub use Rattle.std.specs.Prelude.{List, [], length, get_or, set, replicate, take, drop}
