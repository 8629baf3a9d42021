use Rattle.tower.specs.Split.{level}
use Rattle.tower.proofs.+tower_mul.Given as goal

abbrev pub decreases-tower_mul : goal.decreases-tower_mul
decreases-tower_mul l = level l.top
