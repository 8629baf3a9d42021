-- The refusal of the fingerprint is exact: refusal 6 above the limit, and else the fingerprint; an empty list is answered 0.
use Rattle.std.specs.Prelude.{◌≡◌, List, [], ℕ, ◌≤◌, ◌<◌, length, Ok}
use Rattle.answers.specs.Answer.{Exactly, Accepts}
use Rattle.answers.specs.declared.Refusal.TheVariants.{TooManyWords}
use Rattle.fingerprint.specs.Print.{limit, print_of, answer}

pub record RefusalsPrint : Type 0 where
  pub print_refuses : (words : List ℕ) (point : ℕ) → Exactly TooManyWords (limit < length words) (answer words point)
  pub print_accepts : (words : List ℕ) (point : ℕ) → Accepts (length words ≤ limit) (print_of words point) (answer words point)
  pub print_empty : (point : ℕ) → answer [] point ≡ Ok 0
