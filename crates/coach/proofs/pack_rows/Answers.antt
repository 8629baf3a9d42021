-- `coach::pack_rows` meets its contract: after i turns the first i words are the rows', and the others as they were.
-- Assumes nothing.
use Rattle.std.proofs.Common.{◌≡◌, ◌∙◌, ap, arith, ℕ, min, ◌+◌, ◌*◌, ◌<◌, length, length-drop, drop, take, drop-drop, List}
use Rattle.gf2.proofs.Sweep.{swept_turn}
use Rattle.coach.specs.Rows.{row_word_of, words_for_rows}
use Rattle.coach.proofs.Packing.{cut, row_word_taken, packed_done}
use Rattle.coach.proofs.pack_rows.Goals as goal

pub loop-i-preserved : goal.loop-i-preserved
loop-i-preserved c =
    let l = c.loop-i in
    let n = l.i-iterator.count in
    let rows = c.args.rows.now in
    let some = c.in-Some.ensures.steps in
    let left : length l.i-iterator.iter.rest.now ≡ length (drop (8 * n) rows) = ap length l.invariant.1 in
    let more : 8 * n < length rows = omega (arith, length-drop (8 * n) rows) in
    let parts = cut 8 _ _ _ some.0.1.0 (some.0.1.1 ∙ ap (λ (k : ℕ). min k (length l.i-iterator.iter.rest.now)) l.invariant.0) in
    let word : c.row_word.result ≡ row_word_of rows (8 * n) =
    c.row_word.ensures ∙ ap (λ (s : List ℕ). row_word_of s 0) (parts.0 ∙ ap (take 8) l.invariant.1) ∙ row_word_taken rows (8 * n) in
    let next : 8 * n + 8 ≡ 8 * c.next.new.self.count = omega (arith, some.2) in (
      some.0.0 ∙ l.invariant.0,
      parts.1 ∙ ap (drop 8) l.invariant.1 ∙ drop-drop 8 (8 * n) rows ∙ ap (λ (k : ℕ). drop k rows) next,
      omega (arith, some.2),
      rw (some.1, some.2) (swept_turn (omega (arith, c.div_ceil-count.ensures)) l.invariant.3 word),
    )

pub returns-clause-words : goal.returns-clause-words
returns-clause-words c =
    let l = c.loop-i in
    let none = c.in-None.ensures.steps in
    let rows = c.args.rows.now in
    let n = l.i-iterator.count in
    let left : length l.i-iterator.iter.rest.now ≡ length (drop (8 * n) rows) = ap length l.invariant.1 in
    let all : n ≡ words_for_rows (length rows) = omega (arith, length-drop (8 * n) rows, none) in
    (packed_done rows c.args.words.now all (omega (arith, c.div_ceil-count.ensures)) l.invariant.3).1
