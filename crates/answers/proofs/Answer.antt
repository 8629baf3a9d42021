-- What the numbers of answers tell.
use Rattle.std.proofs.Common.{◌≡◌, ◌∙◌, refl, ℕ, sym, ap, arith, [], ◌∷◌, ◌≢◌, get_or}
use Rattle.answers.specs.Answer.{Numbers, refusal}
use Rattle.answers.specs.declared.Refusal.{Refusal}
use Rattle.answers.specs.declared.Refusal.TheVariants.{NoInverse, LengthsDiffer, BadIndex, Short, OddLimbs, TooManyWords}

-- ---- numbers

pub refusal_not_0 : (why : Refusal) → refusal why ≢ 0
refusal_not_0 NoInverse e = omega arith
refusal_not_0 LengthsDiffer e = omega arith
refusal_not_0 BadIndex e = omega arith
refusal_not_0 Short e = omega arith
refusal_not_0 OddLimbs e = omega arith
refusal_not_0 TooManyWords e = omega arith

-- the refusal with a number
named : ℕ → Refusal
named n = get_or (NoInverse ∷ NoInverse ∷ LengthsDiffer ∷ BadIndex ∷ Short ∷ OddLimbs ∷ TooManyWords ∷ []) n NoInverse

named_refusal : (why : Refusal) → named (refusal why) ≡ why
unfolding named
named_refusal NoInverse = refl
named_refusal LengthsDiffer = refl
named_refusal BadIndex = refl
named_refusal Short = refl
named_refusal OddLimbs = refl
named_refusal TooManyWords = refl

pub refusal_apart : (why why' : Refusal) → refusal why ≡ refusal why' → why ≡ why'
refusal_apart why why' e = sym (named_refusal why) ∙ ap named e ∙ named_refusal why'

pub numbers : (A : Type 0) → Numbers A
numbers A = record {
  accepted = λ v. refl;
  refused = refusal_not_0;
  apart = refusal_apart;
}
