use Rattle.towers.specs.Basis.{monomial_image}
use Rattle.gf2.proofs.Table.{Filled}
use Rattle.tower.proofs.tower_images.Given as goal

abbrev pub invariant-loop-j : goal.invariant-loop-j
invariant-loop-j l = Filled 8 (monomial_image 3) 0 l.images l.j
