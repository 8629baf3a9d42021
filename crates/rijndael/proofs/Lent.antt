-- One byte read and written, as code sees it: the first entry, and a store at 0.
use Rattle.std.proofs.Common.{◌≡◌, ℕ, ◌<◌, ◌≤◌, List, [], ◌∷◌, ◌++◌, length, get_or, set, drop, ltb, sym, ap, ◌∙◌, mod-eq_of_lt, le-ltb, arith, Ok}
use Rattle.answers.specs.Answer.{mapped}
use Rattle.answers.specs.Lent.{word_of, bytes_of, read_of, written}
use Rattle.answers.specs.declared.Refusal.TheVariants.{Short}
use Rattle.answers.proofs.Lent.{word_of-one}
use Rattle.answers.proofs.Refusals.{accepts}
use Rattle.answers.proofs.Written.{written_room}
use Rattle.rijndael.specs.Element.{element}

pub read_some : (s : List ℕ) → 1 ≤ length s → Ok (element (get_or s 0 0)) ≡ mapped element (read_of 1 s)
read_some s h =
    ap (λ (v : ℕ). Ok (element v)) (sym (word_of-one s))
    ∙ ap (mapped element) (sym (accepts (ltb (length s) 1) Short (Ok (word_of 1 s)) (le-ltb (length s) 1 h)))

store : (a : ℕ) (d : List ℕ) → a < 256 → 1 ≤ length d → set d 0 a ≡ bytes_of 1 a ++ drop 1 d
unfolding bytes_of
store a [] l h = absurd (omega arith)
store a (b ∷ d) l h = ap (λ (x : ℕ). x ∷ d) (sym (mod-eq_of_lt l))

pub write_some : (a : ℕ) (d : List ℕ) → a < 256 → 1 ≤ length d → set d 0 a ≡ written 1 d a
write_some a d l h = store a d l h ∙ sym (written_room 1 d a h)
