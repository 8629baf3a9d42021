-- One answer only: any two answers that meet a call's contract, as the checker reads it, are equal.
use Rattle.std.proofs.Common.{◌≡◌, sym, ◌∙◌, List, ℕ, ◌++◌, IsOk}
use Rattle.std.specs.Fmt.{IsPlainFormatter}
use Rattle.answers.proofs.Text.{shown}
use Rattle.answers.proofs.Refusal.number.Reads as refusal-number
use Rattle.answers.proofs.number.Reads as answer-number
use Rattle.answers.proofs.RefusalDisplay.fmt.Reads as refusal-fmt

pub refusal_number_unique : (κs : _) (a : _) (r r' : _) (s s' : _) → refusal-number.Post κs a r s → refusal-number.Post κs a r' s' → r ≡ r'
refusal_number_unique κs a r r' s s' p q = p ∙ sym q

pub answer_number_unique : (κs : _) (a : _) (r r' : _) (s s' : _) → answer-number.Post κs a r s → answer-number.Post κs a r' s' → r ≡ r'
answer_number_unique κs a r r' s s' p q = p ∙ sym q

-- of the text that a writer holds, which keeps what it is given and does not fail
pub refusal_fmt_unique : (W : _) (bounds : _) (met : _) (laws : _) (κs : _) (a : _) (r r' : _) (s s' : _)
    → refusal-fmt.Post W bounds met laws κs a r s → refusal-fmt.Post W bounds met laws κs a r' s'
    → IsPlainFormatter a.1.0.now → IsOk r → IsOk r'
    → (text : _ → List ℕ) → ((w : _) (bs : List ℕ) (v : _) → met.write_str_gives w bs v → text v ≡ text w ++ bs)
    → text s.1.0.now.writer ≡ text s'.1.0.now.writer
refusal_fmt_unique W bounds met laws κs a r r' s s' p q plain ok ok' text keeps =
    shown W bounds met laws κs a r s p plain ok text keeps ∙ sym (shown W bounds met laws κs a r' s' q plain ok' text keeps)
