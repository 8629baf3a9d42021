-- `clmul::clmul_64x64` meets its contract: the two halves are the limbs. Assumes nothing.
use Rattle.clmul.proofs.Halves.{limbs-cmul}
use Rattle.clmul.proofs.clmul_64x64.Goals as goal

pub returns : goal.returns
returns c =
    limbs-cmul c.ranges.a.fits c.ranges.b.fits c.bmul64-low.ensures c.bmul64_high-high.ensures
