-- `endian::read_64` meets its contract: std's number of the first 8 bytes is theirs. Assumes nothing.
use Rattle.std.proofs.Common.{◌∙◌, ap}
use Rattle.std.specs.Int.{from_le_bytes, w64}
use Rattle.endian.proofs.Readers.{read_value}
use Rattle.endian.proofs.Words.{from_le_bytes-first}
use Rattle.endian.proofs.read_64.Goals as goal

pub returns : goal.returns
returns c =
    let first = rw c.in_ok-bytes.ensures.ok_part at c.first_chunk.ensures.cases in
    read_value 8 c.args.s.now first.enough (c.from_le_bytes.ensures ∙ ap (from_le_bytes w64) first.same ∙ from_le_bytes-first c.args.s.now)
