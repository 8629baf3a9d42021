-- `rijndael::Rijndael8b::square` meets its contract: the square is the product with itself. Assumes nothing.
use Rattle.std.proofs.Common.{sym, ◌∙◌}
use Rattle.gf2.proofs.Ring.{sq_is}
use Rattle.rijndael.proofs.Rijndael8b.square.Goals as goal

pub returns : goal.returns
returns c = c.mul.ensures ∙ sym (sq_is 8 0x1b c.args.self.0)
