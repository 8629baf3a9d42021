-- `tower::into_tower` meets its contract: the written quadword is that of `into`, by computing. Assumes nothing.
use mathlib.Core.Path.{sym, ◌∙◌}
use Rattle.towers.proofs.Quadwords.{into-quadword}
use Rattle.tower.proofs.into_tower.Goals as goal

pub returns : goal.returns
returns c = c.from_quadword.ensures ∙ sym into-quadword
