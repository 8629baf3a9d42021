use Rattle.std.proofs.Common.{◌≡◌, ◌+◌, ◌*◌, ◌<◌, length, drop}
use Rattle.gf2.proofs.Sweep.{Swept}
use Rattle.coach.specs.Rows.{row_word_of}
use Rattle.coach.proofs.pack_rows.Given as goal

abbrev pub invariant-loop-i : goal.invariant-loop-i
invariant-loop-i l =
    let n = l.i-iterator.count in
    (l.i-iterator.iter.size ≡ 8) × (l.i-iterator.iter.rest.now ≡ drop (8 * n) l.rows) × (8 * n < length l.rows + 8)
    × Swept (λ k. row_word_of l.rows (8 * k)) 0 l.initial.words l.words n
