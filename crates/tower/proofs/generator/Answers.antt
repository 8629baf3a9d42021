-- `tower::generator` meets its contract: the written constant is the image of tower byte 13. Assumes nothing.
use mathlib.Core.Path.{sym}
use Rattle.towers.proofs.Generator.{generator}
use Rattle.tower.proofs.generator.Goals as goal

pub returns : goal.returns
returns c = sym generator
