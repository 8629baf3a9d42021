-- Three generators, so a half is narrower than a byte.
use Rattle.std.proofs.Common.{◌<◌, lit<}
use Rattle.tower.specs.declared.Split.{Split}
use Rattle.tower.specs.declared.Split.TheVariants.{X0, X1, X2}
use Rattle.tower.specs.Split.{index}

pub index_lt : (s : Split) → index s < 3
index_lt X0 = lit< tt
index_lt X1 = lit< tt
index_lt X2 = lit< tt
