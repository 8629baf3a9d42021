-- `words::reverse_bits_8` meets its contract: std's reversal is the one of Words. Assumes nothing.
use Rattle.std.proofs.Common.{◌∙◌}
use Rattle.words.proofs.Rev.{reverse_bits-rev}
use Rattle.words.proofs.reverse_bits_8.Goals as goal

pub returns : goal.returns
returns c = c.reverse_bits.ensures ∙ reverse_bits-rev 8 c.args.x
