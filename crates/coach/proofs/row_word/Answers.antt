-- `coach::row_word` meets its contract: std's number of eight rows is their word, and after k turns that of the first k rows
-- was made. Assumes nothing.
use Rattle.std.proofs.Common.{◌≡◌, ◌∙◌, refl, sym, ap, arith, rules, ℕ, ◌*◌, ◌^◌, get_or, zero-add, shl_exact, take_all}
use Rattle.std.specs.Int.{from_le_bytes, w64}
use Rattle.gf2.specs.Poly.{xsum}
use Rattle.gf2.proofs.Sum.{xsum_turn}
use Rattle.coach.specs.Rows.{row_word_of}
use Rattle.coach.proofs.Packing.{row, row_word_whole}
use Rattle.coach.proofs.row_word.Goals as goal

pub returns-in-Some : goal.returns-in-Some
returns-in-Some c =
    let rows = c.args.rows.now in
    let first = rw c.in-Some.is at c.first_chunk.ensures.cases in
    c.from_le_bytes.ensures ∙ ap (from_le_bytes w64) (first.same ∙ take_all 8 rows c.requires) ∙ row_word_whole rows (λ i. (c.type_inv.rows i).fits)

pub loop-k-init : goal.loop-k-init
unfolding xsum
loop-k-init c = refl

pub loop-k-preserved : goal.loop-k-preserved
loop-k-preserved c =
    let k = c.loop-k.k in
    let s = c.args.rows.now in
    let value : c.unwrap_or-row.result ≡ get_or s k 0 = search rules in
    xsum_turn k (row s 0) c.loop-k.invariant
    (shl_exact 8 (8 * k) 64 c.unwrap_or-row.type_inv (omega (arith, c.loop-k-test.true)) ∙ ap (λ (x : ℕ). x * 2 ^ (8 * k)) value ∙ ap (λ (j : ℕ). get_or s j 0 * 2 ^ (8 * k)) (sym (zero-add k)))

pub returns : goal.returns
unfolding row_word_of
returns c =
    let all : c.loop-k.k ≡ 8 = omega arith in
    c.loop-k.invariant ∙ ap (λ (n : ℕ). xsum n (row c.args.rows.now 0)) all
