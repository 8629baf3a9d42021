-- `rijndael::Rijndael8b::read` meets its contract: there is a first byte. Assumes nothing.
use Rattle.rijndael.proofs.Lent.{read_some}
use Rattle.rijndael.proofs.Rijndael8b.read.Goals as goal

pub returns-in-len1-up : goal.returns-in-len1-up
returns-in-len1-up c = read_some c.args.s.now c.in-len1-up.len_at_least
