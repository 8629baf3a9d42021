-- `rijndael::Rijndael8b::sqrt` meets its contract: the root is seven squarings. Assumes nothing.
use Rattle.gf2.specs.Residue.{root}
use Rattle.rijndael.proofs.Rijndael8b.sqrt.Goals as goal

pub returns : goal.returns
unfolding root
returns c = c.exp_power_of_2.ensures
