-- `From<BinaryField8> for Rijndael8b` meets its contract: the quadword sends a byte where `out` does. Assumes nothing.
use mathlib.Core.Path.{ap, ◌∙◌}
use Prim.Native.Nat.{ℕ}
use native.Mathlib.Omega.{arith}
use Rattle.spellings.specs.Quadword.{image}
use Rattle.towers.proofs.Quadwords.{image-out}
use Rattle.tower.proofs.Rijndael8bFromBinaryField8.from.Goals as goal

pub returns : goal.returns
returns c =
    let a = c.args.x.0 in
    c.from_byte.ensures ∙ c.apply.ensures ∙ ap (λ (q : ℕ). image q a) c.from_tower.ensures ∙ image-out a (omega arith)
