-- `rijndael::Rijndael8b::exp_power_of_2` meets its contract: after a number of turns `x` is squared as often. Assumes nothing.
use Rattle.std.proofs.Common.{◌≡◌, ◌%◌, sym, ◌∙◌, arith, rules}
use Rattle.gf2.proofs.Ring.{sq_is}
use Rattle.gf2.proofs.Squarings.{frob_none, frob_turn}
use Rattle.rijndael.proofs.Laws.{frob_remainder}
use Rattle.rijndael.proofs.Rijndael8b.exp_power_of_2.Goals as goal

pub loop-turn-init : goal.loop-turn-init
loop-turn-init c = frob_none 8 0x1b _

pub loop-turn-preserved : goal.loop-turn-preserved
loop-turn-preserved c = frob_turn 8 0x1b c.loop-turn._turn _ c.loop-turn.invariant (c.square-x.ensures ∙ sq_is 8 0x1b _)

pub returns : goal.returns
returns c =
    let l = c.loop-turn in
    let a = c.args in
    let e : l._turn ≡ a.power_log % 8 = omega arith in
    (rw e at l.invariant) ∙ sym (frob_remainder a.power_log a.self.0 (search rules))
