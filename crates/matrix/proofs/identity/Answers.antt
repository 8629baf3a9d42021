-- `matrix::identity` meets its contract. Assumes nothing.
use mathlib.Core.Path.{sym}
use Rattle.matrix.proofs.Laws.{find_identity}
use Rattle.matrix.proofs.identity.Goals as goal

pub returns : goal.returns
returns c = sym find_identity
