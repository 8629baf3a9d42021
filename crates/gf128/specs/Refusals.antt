-- The refusals of the sum of products at 128 bits are exact: 2 where the lengths differ, and 5 where they do not and the limbs
-- are odd in number; in every other case the sum is answered.
use Rattle.std.specs.Prelude.{◌≡◌, ◌≢◌, List, [], ℕ, ◌/◌, ◌%◌, length, Ok}
use Rattle.gf2.specs.Residue.{dot}
use Rattle.words.specs.Limbs.{limbs}
use Rattle.answers.specs.Answer.{Exactly, Accepts}
use Rattle.answers.specs.declared.Refusal.TheVariants.{LengthsDiffer, OddLimbs}
use Rattle.gf128.specs.Answers.{element, answer}

pub record Refusals128 : Type 0 where
  pub dot_refuses_2 : (a b : List ℕ) → Exactly LengthsDiffer (length a ≢ length b) (answer a b)
  pub dot_refuses_5 : (a b : List ℕ) → Exactly OddLimbs ((length a ≡ length b) × (length a % 2 ≢ 0)) (answer a b)
  pub dot_accepts : (a b : List ℕ)
      → Accepts ((length a ≡ length b) × (length a % 2 ≡ 0)) (limbs (dot 128 0x87 (length a / 2) (element a) (element b))) (answer a b)
  pub dot_empty : answer [] [] ≡ Ok (limbs 0)
