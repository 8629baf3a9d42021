-- `tower::from_tower` meets its contract: the written quadword is that of `out`, by computing. Assumes nothing.
use mathlib.Core.Path.{sym, ◌∙◌}
use Rattle.towers.proofs.Quadwords.{out-quadword}
use Rattle.tower.proofs.from_tower.Goals as goal

pub returns : goal.returns
returns c = c.from_quadword.ensures ∙ sym out-quadword
