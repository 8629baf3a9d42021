-- `tower::Split::joined` meets its contract: `join_is` at a byte. Assumes nothing.
use Rattle.towers.proofs.Step.{join_is}
use Rattle.tower.proofs.Index.{index_lt}
use Rattle.tower.proofs.Split.joined.Goals as goal

pub returns : goal.returns
returns c = join_is 3 _ (index_lt c.args.self) c.width.ensures c.args.x c.args.y c.requires
