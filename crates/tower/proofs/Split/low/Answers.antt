-- `tower::Split::low` meets its contract: `low_is` at a byte. Assumes nothing.
use Rattle.towers.proofs.Step.{low_is}
use Rattle.tower.proofs.Index.{index_lt}
use Rattle.tower.proofs.Split.low.Goals as goal

pub returns : goal.returns
returns c = low_is 3 _ (index_lt c.args.self) c.width.ensures c.args.a
