-- An answer a by its number n, as a caller in another language reads it: any number but 0 is that of a refusal, and 0 that of an accepted call.
use Rattle.std.specs.Prelude.{◌≡◌}
use Rattle.integers.specs.Kit.{false, ℕ, T, ◌∙◌}
use borrow.Author.Tests.{ne_eqb}
use Rattle.answers.specs.Answer.{Returned, accepted}

module _ (a : Returned) {n : ℕ} (g : n ≡ a.number) where
  pub refused-number : (n ≡ 0 → ⊥) → accepted a ≡ false
  refused-number x = ne_eqb a.number 0 (λ z. x (g ∙ z))

  pub accepted-number : n ≡ 0 → T (accepted a)
  accepted-number z = rw (← g, z) tt
