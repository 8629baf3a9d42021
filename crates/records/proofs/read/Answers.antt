-- `records::read` meets its contract: after k turns the first k words are numbers, and stand. Assumes nothing.
use Rattle.std.proofs.Common.{◌≡◌, ◌∙◌, ap, sym, refl, arith, Some}
use Rattle.gf2.proofs.Table.{filled_none, filled_turn}
use Rattle.records.specs.Lines.{word_at, value, numbers}
use Rattle.records.proofs.Lines.{part_read, numbers_more, line_bad, line_good}
use Rattle.records.proofs.read.Goals as goal

pub loop-k-init : goal.loop-k-init
unfolding numbers
loop-k-init c = record { good = refl; filled = filled_none refl }

pub returns-in_err-word : goal.returns-in_err-word
returns-in_err-word c =
    c.from_residual.ensures ∙ line_bad c.args.text.now c.loop-k.k (omega arith) (part_read c.args.text.now c.loop-k.k c.parse_hex.ensures c.in_err-word.was)

pub loop-k-preserved : goal.loop-k-preserved
loop-k-preserved c =
    let l = c.loop-k in
    let text = c.args.text.now in
    let w : word_at text l.k ≡ Some c.in_ok-word.field-0 = part_read text l.k c.parse_hex.ensures c.in_ok-word.was in
    record { good = numbers_more text l.k l.invariant.good w; filled = filled_turn (omega arith) l.invariant.filled (sym (ap value w)) }

pub returns : goal.returns
returns c =
    let l = c.loop-k in
    let e : l.k ≡ 8 = omega arith in
    line_good c.args.text.now (rw e at l.invariant.good) (rw e at l.invariant.filled)
