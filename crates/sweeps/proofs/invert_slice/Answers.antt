-- `sweeps::invert_slice` meets its contract: after some turns that many first bytes are inverses, and the others as they were.
-- Assumes nothing.
use Rattle.std.proofs.Common.{◌∙◌, ap, le_refl, arith, rules}
use Rattle.gf2.specs.Residue.{inv}
use Rattle.gf2.proofs.Sweep.{swept_turn, swept_all}
use Rattle.sweeps.proofs.invert_slice.Goals as goal

pub loop-x-preserved : goal.loop-x-preserved
loop-x-preserved c =
    let l = c.loop-x in
    let e = c.invert_byte.ensures ∙ ap (inv 8 0x1b) (l.invariant.rest l.x-index (le_refl l.x-index)) in
    swept_turn (search rules) l.invariant e

pub returns : goal.returns
returns c = let l = c.loop-x in swept_all l.invariant (omega (arith, l.invariant.filled.size))
