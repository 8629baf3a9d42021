-- What `{}` prints of a refusal.
use Rattle.std.specs.Prelude.{◌≡◌, ℕ, ◌+◌, List, [], ◌∷◌, ◌++◌, codes, decimal}
use Rattle.answers.specs.Answer.{refusal}
use Rattle.answers.specs.declared.Refusal.{Refusal}

-- the word and the number
abbrev pub text_of : Refusal → List ℕ
text_of why = codes "refusal " ++ decimal (refusal why)

pub record Texts : Type 0 where
  -- the number is one digit
  pub digit : (why : Refusal) → text_of why ≡ codes "refusal " ++ (48 + refusal why) ∷ []
  -- different refusals have different texts
  pub apart : (why why' : Refusal) → text_of why ≡ text_of why' → why ≡ why'
