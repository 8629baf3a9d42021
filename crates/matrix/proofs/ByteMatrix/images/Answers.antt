-- `matrix::ByteMatrix::images` meets its contract: entry b is the image of 2^b. Assumes nothing.
use mathlib.Core.Path.{ap, ◌∙◌}
use Prim.Native.Nat.{◌*◌, ◌%◌, ◌^◌}
use borrow.Author.Rules.{rules}
use Rattle.spellings.specs.Quadword.{image}
use Rattle.spellings.specs.Lists.{find_images}
use Rattle.gf2.proofs.Bits.{shl_one}
use Rattle.gf2.proofs.Table.{tab_below}
use Rattle.gf2.proofs.Arrays.{made_table}
use Rattle.matrix.proofs.ByteMatrix.images.Goals as goal

pub returns : goal.returns
unfolding find_images
returns c =
    let q = c.args.self.0 in
    made_table _ _ 8 (λ b. image q (1 * 2 ^ b % 2 ^ 8)) (λ b y d h k. search rules) c.from_fn.ensures.items
    ∙ tab_below 8 (λ b h. ap (image q) (shl_one 8 b h))
