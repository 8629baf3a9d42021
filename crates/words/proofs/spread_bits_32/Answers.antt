-- `words::spread_bits_32` meets its contract. Assumes nothing.
use Rattle.words.proofs.Rounds.{ups_law}
use Rattle.words.proofs.spread_bits_32.Goals as goal

pub returns : goal.returns
returns c = ups_law c.args.v c.ranges.v.fits
