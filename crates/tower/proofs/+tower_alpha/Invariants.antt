use Rattle.tower.specs.Split.{level}
use Rattle.tower.proofs.+tower_alpha.Given as goal

abbrev pub decreases-tower_alpha : goal.decreases-tower_alpha
decreases-tower_alpha l = level l.top
