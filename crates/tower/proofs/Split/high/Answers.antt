-- `tower::Split::high` meets its contract: `high_is` at a byte. Assumes nothing.
use Rattle.std.proofs.Common.{◌∙◌}
use Rattle.towers.proofs.Step.{high_is}
use Rattle.tower.proofs.Index.{index_lt}
use Rattle.tower.proofs.Split.high.Goals as goal

pub returns : goal.returns
returns c = c.low.ensures ∙ high_is 3 _ (index_lt c.args.self) c.width.ensures c.args.a
