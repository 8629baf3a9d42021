-- `seat_lines::fingerprint_rows` meets its contract: the words packed are the map's, or they are too many. Assumes nothing.
use Rattle.std.proofs.Common.{◌≡◌, ◌∙◌, ap, ℕ, List, length, take, replicate}
use Rattle.std.proofs.lemmas.List.{length-replicate}
use Rattle.fingerprint.specs.Print.{limit, answer}
use Rattle.seat_lines.proofs.Packing.{packed_value}
use Rattle.seat_lines.proofs.Refusals.{print_refused}
use Rattle.seat_lines.proofs.fingerprint_rows.Goals as goal

-- the words before they are packed
zeros : List ℕ
zeros = replicate limit 0

length_zeros : length zeros ≡ limit
unfolding zeros
length_zeros = length-replicate {A = ℕ} limit 0

pub returns-in_default : goal.returns-in_default
unfolding zeros limit
returns-in_default c = print_refused c.args.rows.now zeros c.args.point length_zeros c.in_default.ensures.answer

pub returns : goal.returns
unfolding zeros limit
returns c =
    c.fingerprint.ensures
    ∙ ap (λ (s : List ℕ). answer s c.args.point)
    (ap (take c.in-Ok.count) c.pack_rows.ensures.words ∙ packed_value c.args.rows.now zeros c.in-Ok.ensures.answer)
