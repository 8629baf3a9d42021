-- Refusal 6 is exact for a coach's map: it is given where the map has more than eight rows for each word that a fingerprint may
-- have.
use Rattle.std.specs.Prelude.{List, ℕ, ◌*◌, ◌≤◌, ◌<◌, length}
use Rattle.answers.specs.Answer.{Exactly, Accepts}
use Rattle.answers.specs.declared.Refusal.TheVariants.{TooManyWords}
use Rattle.fingerprint.specs.Print.{limit, print_of, answer}
use Rattle.seat_lines.specs.Print.{row_words}

pub record RefusalsRows : Type 0 where
  pub print_refuses : (rows : List ℕ) (point : ℕ) → Exactly TooManyWords (8 * limit < length rows) (answer (row_words rows) point)
  pub print_accepts : (rows : List ℕ) (point : ℕ)
      → Accepts (length rows ≤ 8 * limit) (print_of (row_words rows) point) (answer (row_words rows) point)
