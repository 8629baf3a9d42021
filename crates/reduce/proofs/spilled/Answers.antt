-- `reduce::spilled` meets its contract. Assumes nothing.
use Prim.Native.Nat.{◌-◌}
use native.Mathlib.Omega.{arith}
use Rattle.reduce.proofs.Folds.{spill_is}
use Rattle.reduce.proofs.spilled.Goals as goal

pub returns : goal.returns
returns g c =
    let i = g.row.I in
    let j = g.row.J in
    let k = g.row.K in
    spill_is 64 i j k (64 - i) (64 - j) (64 - k) (omega arith) (omega arith) (omega arith) c.args.h c.ranges.h.fits
