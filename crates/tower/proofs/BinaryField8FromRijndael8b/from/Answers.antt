-- `From<Rijndael8b> for BinaryField8` meets its contract: the quadword sends a byte where `into` does. Assumes nothing.
use mathlib.Core.Path.{ap₂, ◌∙◌}
use native.Mathlib.Omega.{arith}
use Rattle.spellings.specs.Quadword.{image}
use Rattle.towers.proofs.Quadwords.{image-into}
use Rattle.tower.proofs.BinaryField8FromRijndael8b.from.Goals as goal

pub returns : goal.returns
returns c =
    let a = c.args.x.0 in
    c.apply.ensures ∙ ap₂ image c.into_tower.ensures c.to_byte.ensures ∙ image-into a (omega arith)
