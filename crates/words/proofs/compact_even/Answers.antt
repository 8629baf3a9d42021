-- `words::compact_even` meets its contract. Assumes nothing.
use Rattle.words.proofs.Rounds.{downs_law}
use Rattle.words.proofs.compact_even.Goals as goal

pub returns : goal.returns
returns c = downs_law c.args.x c.ranges.x.fits
