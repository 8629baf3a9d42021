-- `words::reverse_bits_64` meets its contract. Assumes nothing.
use Rattle.words.proofs.Swap.{swaps_law}
use Rattle.words.proofs.reverse_bits_64.Goals as goal

pub returns : goal.returns
returns c = swaps_law c.args.x c.ranges.x.fits
