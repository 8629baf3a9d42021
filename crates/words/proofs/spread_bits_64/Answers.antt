-- `words::spread_bits_64` meets its contract: the law `spread_halves`, handed the two calls. Assumes nothing.
use Rattle.std.proofs.Common.{◌∙◌, ap₂, shr_lt}
use lib.Bits.{mask_lt}
use Rattle.words.proofs.Value.{pair}
use Rattle.words.proofs.Rounds.{spread_halves}
use Rattle.words.proofs.spread_bits_64.Goals as goal

pub overflow_cast-v : goal.overflow_cast-v
overflow_cast-v c = record { fits = mask_lt c.args.v 32 }

pub overflow_cast-v-2 : goal.overflow_cast-v-2
overflow_cast-v-2 c = record { fits = shr_lt 32 32 c.ranges.v.fits }

pub returns : goal.returns
returns c =
    ap₂ pair c.spread_bits_32-low.ensures c.spread_bits_32-high.ensures ∙ spread_halves c.args.v c.ranges.v.fits
