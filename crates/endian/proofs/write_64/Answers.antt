-- `endian::write_64` meets its contract: std's bytes of the word are the lowest 8 of it. Assumes nothing.
use Rattle.std.proofs.Common.{◌∙◌, ap, sym, List, ◌++◌, ℕ, drop}
use Rattle.answers.proofs.Written.{written_room}
use Rattle.endian.proofs.Words.{to_le_bytes-is}
use Rattle.endian.proofs.write_64.Goals as goal

pub returns-clause-bytes : goal.returns-clause-bytes
returns-clause-bytes c =
    let d = c.args.d.now in
    let first = rw c.in_ok-bytes.ensures.ok_part at c.first_chunk_mut.ensures.cases in
    ap (λ (s : List ℕ). s ++ drop 8 d) (c.to_le_bytes.ensures ∙ to_le_bytes-is c.args.v) ∙ sym (written_room 8 d c.args.v first.enough)
