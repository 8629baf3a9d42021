-- The refusals of the field of 64 bits are exact: refusal 1 of the inverse and of the division, and refusal 2 of the sum of
-- products; and in every other case the value is answered.
use Rattle.std.specs.Prelude.{◌≡◌, ◌≢◌, List, [], ℕ, length, get_or, Ok}
use Rattle.gf2.specs.Residue.{mul, inv, dot}
use Rattle.answers.specs.Answer.{Exactly, Accepts}
use Rattle.answers.specs.Quotient.{inverse_of, quotient_of, Quotients}
use Rattle.answers.specs.declared.Refusal.TheVariants.{LengthsDiffer}
use Rattle.gf64.specs.Answers.{dot_of}

pub record Refusals64 : Type 0 where
  pub quotients : Quotients 64 0x1b
  pub inverse_accepts : (a : ℕ) → Accepts (a ≢ 0) (inv 64 0x1b a) (inverse_of 64 0x1b a)
  pub quotient_accepts : (a b : ℕ) → Accepts (b ≢ 0) (mul 64 0x1b a (inv 64 0x1b b)) (quotient_of 64 0x1b a b)
  pub dot_refuses : (a b : List ℕ) → Exactly LengthsDiffer (length a ≢ length b) (dot_of a b)
  pub dot_accepts : (a b : List ℕ)
      → Accepts (length a ≡ length b) (dot 64 0x1b (length a) (λ i. get_or a i 0) (λ i. get_or b i 0)) (dot_of a b)
  pub dot_empty : dot_of [] [] ≡ Ok 0
