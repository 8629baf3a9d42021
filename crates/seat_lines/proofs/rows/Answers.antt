-- `seat_lines::rows` meets its contract: eight rows for each word. Assumes nothing.
use Rattle.std.proofs.Common.{refl}
use Rattle.fingerprint.specs.Print.{limit}
use Rattle.seat_lines.proofs.rows.Goals as goal

pub returns : goal.returns
unfolding limit
returns c = refl
