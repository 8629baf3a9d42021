-- ANSWERS: a call that may refuse answers its value, or one of the numbered refusals.
use Rattle.std.specs.Prelude.{◌≡◌, Bool, ℕ, ◌↔◌, ◌≢◌, Result, Ok, Err}
use Rattle.gf2.specs.Bits.{pick}
use Rattle.answers.specs.declared.Refusal.{Refusal}
use Rattle.answers.specs.declared.Refusal.TheVariants.{NoInverse, LengthsDiffer, BadIndex, Short, OddLimbs, TooManyWords}

-- what a call that may refuse answers
abbrev pub Answer : Type 0 → Type 0
Answer A = Result A Refusal

-- the number of a refusal
abbrev pub refusal : Refusal → ℕ
refusal NoInverse = 1
refusal LengthsDiffer = 2
refusal BadIndex = 3
refusal Short = 4
refusal OddLimbs = 5
refusal TooManyWords = 6

module _ {A : Type 0} where
  -- the number of an answer: 0 with a value
  abbrev pub number : Answer A → ℕ
  number (Ok v) = 0
  number (Err why) = refusal why

  -- the value, or what was there before where the call refuses
  abbrev pub value_or : Answer A → A → A
  value_or (Ok v) old = v
  value_or (Err why) old = old

  -- a refusal where the test holds, and else what follows
  abbrev pub refuse_if : Bool → Refusal → Answer A → Answer A
  refuse_if t why a = pick t (Err why) a

  -- a refusal is given exactly where P holds
  abbrev pub Exactly : Refusal → Type 0 → Answer A → Type 0
  Exactly why P a = (number a ≡ refusal why) ↔ P

  -- a call accepts exactly where P holds, and then answers v
  abbrev pub Accepts : Type 0 → A → Answer A → Type 0
  Accepts P v a = ((number a ≡ 0) ↔ P) × (P → a ≡ Ok v)

-- an answer with its value changed
abbrev pub mapped : {A B : Type 0} → (A → B) → Answer A → Answer B
mapped f (Ok v) = Ok (f v)
mapped f (Err why) = Err why

-- ---- what the numbers tell

pub record Numbers (A : Type 0) : Type 0 where
  -- an accepted call answers 0, and a refusing one does not
  pub accepted : (v : A) → number (Ok v) ≡ 0
  pub refused : (why : Refusal) → number {A = A} (Err why) ≢ 0
  -- different refusals have different numbers
  pub apart : (why why' : Refusal) → refusal why ≡ refusal why' → why ≡ why'
