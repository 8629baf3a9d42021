-- What the texts of refusals tell: each is a word and a digit, no two are the same, and `{}` prints just these.
use Rattle.std.proofs.Common.{◌≡◌, List, ℕ, ◌^◌, ◌<◌, ◌++◌, codes, ap, lit<, lt_of_lt_of_le, lit≤, IsOk}
use Rattle.std.specs.Fmt.{IsPlainFormatter}
use Rattle.std.proofs.lemmas.Fmt.{decimal_digit, decimal_injective, contents_after_writes}
use Rattle.std.proofs.lemmas.List.{append_cancel_left}
use Rattle.answers.specs.Answer.{refusal}
use Rattle.answers.specs.Text.{text_of, Texts}
use Rattle.answers.specs.declared.Refusal.{Refusal}
use Rattle.answers.specs.declared.Refusal.TheVariants.{NoInverse, LengthsDiffer, BadIndex, Short, OddLimbs, TooManyWords}
use Rattle.answers.proofs.Answer.{refusal_apart}
use Rattle.answers.proofs.RefusalDisplay.fmt.Reads as refusal-fmt

refusal_lt : (why : Refusal) → refusal why < 10
refusal_lt NoInverse = lit< tt
refusal_lt LengthsDiffer = lit< tt
refusal_lt BadIndex = lit< tt
refusal_lt Short = lit< tt
refusal_lt OddLimbs = lit< tt
refusal_lt TooManyWords = lit< tt

refusal_lt_wide : (why : Refusal) → refusal why < 2 ^ 64
refusal_lt_wide why = lt_of_lt_of_le (refusal_lt why) (lit≤ tt)

pub texts : Texts
texts = record {
  digit = λ why. ap (λ s. codes "refusal " ++ s) (decimal_digit (refusal why) (refusal_lt why));
  apart = λ why why' e.
      refusal_apart why why'
      (decimal_injective (refusal why) (refusal why') (refusal_lt_wide why) (refusal_lt_wide why') (append_cancel_left (codes "refusal ") _ _ e));
}

-- what a writer holds after `{}`, where it keeps what it is given and does not fail
pub shown : (W : _) (bounds : _) (met : _) (laws : _) (κs : _) (a : _) (r : _) (s : _)
    → refusal-fmt.Post W bounds met laws κs a r s → IsPlainFormatter a.1.0.now → IsOk r
    → (text : _ → List ℕ) → ((w : _) (bs : List ℕ) (v : _) → met.write_str_gives w bs v → text v ≡ text w ++ bs)
    → text s.1.0.now.writer ≡ text a.1.0.now.writer ++ text_of a.0.now
shown W bounds met laws κs a r s p plain ok text keeps = contents_after_writes met.write_str_gives text keeps _ _ _ (p.0 plain ok).wrote
