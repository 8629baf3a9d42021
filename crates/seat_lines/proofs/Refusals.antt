-- The refusal is given exactly in its case, and the value in every other; and it is what a map's packing leads to that finds too
-- few words.
use Rattle.std.proofs.Common.{◌≡◌, ◌↔◌, ℕ, ◌*◌, ◌≤◌, ◌<◌, sym, ap, Bool, List, ltb, length, arith, lt-ltb, Ok, Err}
use Rattle.std.proofs.Math.Logic.Iff
use Rattle.answers.specs.Answer.{refuse_if}
use Rattle.answers.specs.declared.Refusal.{Refusal}
use Rattle.answers.specs.declared.Refusal.TheVariants.{TooManyWords}
use Rattle.answers.proofs.Refusals.{refuses, accepts_where, below, not_below}
use Rattle.fingerprint.specs.Print.{limit, print_of, answer}
use Rattle.coach.specs.Rows.{packed_answer}
use Rattle.seat_lines.specs.Print.{row_words}
use Rattle.seat_lines.specs.Refusals.{RefusalsRows}
use Rattle.seat_lines.proofs.Packing.{length-words, packing_refused}

-- more words than the limit, exactly where there are more rows than eight times as many
too_many : (rows : List ℕ) → (limit < length (row_words rows)) ↔ (8 * limit < length rows)
unfolding limit
too_many rows = (λ h. omega (arith, length-words rows), λ h. omega (arith, length-words rows))

few_enough : (rows : List ℕ) → (length (row_words rows) ≤ limit) ↔ (length rows ≤ 8 * limit)
unfolding limit
few_enough rows = (λ h. omega (arith, length-words rows), λ h. omega (arith, length-words rows))

pub refusals_rows : RefusalsRows
refusals_rows = record {
  print_refuses = λ rows point. refuses (ltb limit (length (row_words rows))) TooManyWords (print_of (row_words rows) point)
      (Iff.trans (below limit (length (row_words rows))) (too_many rows));
  print_accepts = λ rows point.
      accepts_where (ltb limit (length (row_words rows))) TooManyWords (print_of (row_words rows) point)
      (Iff.trans (not_below limit (length (row_words rows))) (few_enough rows));
}

-- packing into as many words as a fingerprint may have refuses: so does the fingerprint
pub print_refused : (rows old : List ℕ) (point : ℕ) {why : Refusal} → length old ≡ limit → Err why ≡ packed_answer rows old
    → Err TooManyWords ≡ answer (row_words rows) point
print_refused rows old point l e =
    let h : limit < length (row_words rows) = rw l at (packing_refused rows old e) in
    sym (ap (λ (t : Bool). refuse_if t TooManyWords (Ok (print_of (row_words rows) point))) (lt-ltb limit (length (row_words rows)) h))
