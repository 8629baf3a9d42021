-- `matrix::zero` meets its contract. Assumes nothing.
use mathlib.Core.Path.{sym}
use Rattle.matrix.proofs.Laws.{find-zero}
use Rattle.matrix.proofs.zero.Goals as goal

pub returns : goal.returns
returns c = sym find-zero
