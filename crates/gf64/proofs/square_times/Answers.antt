-- `gf64::square_times` meets its contract: after as many turns, as many squarings. Assumes nothing.
use Rattle.std.proofs.Common.{◌∙◌}
use Rattle.gf2.proofs.Ring.{sq_is}
use Rattle.gf2.proofs.Squarings.{frob_none, frob_turn}
use Rattle.gf64.proofs.square_times.Goals as goal

pub loop-init : goal.loop-init
loop-init c = frob_none 64 0x1b c.args.x

pub loop-preserved : goal.loop-preserved
loop-preserved c =
    let l = c.loop in
    frob_turn 64 0x1b l.counter c.args.x l.invariant (c.poly_square_64-y.ensures ∙ sq_is 64 0x1b l.y)
