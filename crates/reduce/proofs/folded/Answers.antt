-- `reduce::folded` meets its contract. Assumes nothing.
use Rattle.reduce.proofs.Folds.{shifts_is}
use Rattle.reduce.proofs.folded.Goals as goal

pub returns : goal.returns
returns g c = shifts_is 64 g.row.I g.row.J g.row.K c.args.h c.ranges.h.fits
