-- What a program writes, by the answer for the bytes that it reads.
use Rattle.std.specs.Prelude.{◌≡◌, ◌≤◌}
use Rattle.integers.specs.Kit.{refl, ap, ◌∙◌, List, ℕ, T, lit<, length}
use native.Mathlib.Omega.{arith}
use lib.ListN.{length-append}
use Rattle.io.specs.Counts.{IsPrefixLen}
use Rattle.integers.specs.Table.{over}
use Rattle.integers.proofs.Overwriting.{take-over}
use Rattle.limits.specs.Limits.{components_size}
use Rattle.answers.specs.declared.Refusal.{Refusal}
use Rattle.answers.specs.Answer as answers
use Rattle.answers.specs.Answer.{accept_with, accepted}
use Rattle.answers.specs.Job.{Job}
use Rattle.answers.proofs.Causes as causes
use Rattle.answers.proofs.Jobs.{refused, done}
use Rattle.sheet_blocks.specs.Blocks.{element_scratch}
use Rattle.sheet.proofs.Causes.{numbered, passes_checked}
use Rattle.sheet_bytes.specs.Program.{input_causes, input_job, input_returned, program_bytes, program_width, refusal_line, words_limit, words_of}

-- `made` is what the program makes of an accepted sheet's words
module _ (bytes : List ℕ) (made : List ℕ → List ℕ) where
  abbrev job : Job (List ℕ)
  job = input_job made (refusal_line (input_returned bytes)) bytes

  pub refused_bytes : (e : Refusal) → answers.refused e ≡ input_returned bytes → refusal_line (answers.refused e) ≡ program_bytes made bytes
  refused_bytes e h = ap refusal_line h ∙ refused job e h

  pub accepted_bytes : (n : ℕ) → accept_with n ≡ input_returned bytes → made (words_of bytes) ≡ program_bytes made bytes
  accepted_bytes n h = done job n h refl

-- an accepted sheet is answered by the count of its words, which is within the limit
pub accepted_words : (bytes : List ℕ) → T (accepted (input_returned bytes))
    → (input_returned bytes ≡ accept_with (length (words_of bytes))) × (length (words_of bytes) ≤ words_limit)
accepted_words bytes a =
    let words = words_of bytes in
    let none = causes.accepted_means (input_causes bytes) (accept_with (length words)) (lit< tt, numbered components_size words program_width components_size words_limit) a in (
      causes.accepts (input_causes bytes) (accept_with (length words)) none,
      (passes_checked element_scratch words program_width components_size words_limit none.1).output_size,
    )

-- q is what was written over the start of l, and is what had to be: the count is within what is left
pub promised : {p q left : List ℕ} {m : ℕ} (l : List ℕ) → q ≡ p → m ≡ length q → left ≡ over q l → (m ≡ length p) × ((left ≡ over p l) × IsPrefixLen m left)
unfolding over
promised {q = q} l e f g = (
  f ∙ ap length e,
  (
    g ∙ ap (λ t. over t l) e,
    (rw (f, g) (simp length-append (omega arith)), rw (f, g, take-over q l (length q) refl)),
  ),
)
