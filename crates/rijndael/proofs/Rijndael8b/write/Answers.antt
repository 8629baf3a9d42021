-- `rijndael::Rijndael8b::write` meets its contract: the first byte is stored. Assumes nothing.
use Rattle.std.proofs.Common.{rules}
use Rattle.rijndael.proofs.Lent.{write_some}
use Rattle.rijndael.proofs.Rijndael8b.write.Goals as goal

pub returns-clause-bytes : goal.returns-clause-bytes
returns-clause-bytes c = write_some c.args.self.0 c.args.d.now (search rules) c.in-len1-up.len_at_least
