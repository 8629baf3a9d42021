-- `matrix::ByteMatrix::compose` meets its contract: entry b of the images is where the one map sends the other's image of 2^b.
-- Assumes nothing.
use mathlib.Core.Path.{ap, ◌∙◌}
use Prim.Native.Nat.{ℕ, ◌*◌, ◌%◌, ◌^◌}
use borrow.Author.Rules.{rules}
use Rattle.spellings.specs.Maps.{after}
use Rattle.spellings.specs.Lists.{find_images}
use Rattle.spellings.specs.Quadword.{image}
use Rattle.spellings.specs.Kinds.{turn, Kind}
use Rattle.gf2.proofs.Bits.{shl_one}
use Rattle.gf2.proofs.Table.{tab_below}
use Rattle.spellings.proofs.Spelling.{find_via}
use Rattle.spellings.proofs.Linear.{linear_closed}
use Rattle.spellings.proofs.Images.{images}
use Rattle.spellings.proofs.Quadword.{quadword, image_linear}
use Rattle.gf2.proofs.Arrays.{made_table}
use Rattle.matrix.proofs.ByteMatrix.compose.Goals as goal

pub returns : goal.returns
unfolding find_images
returns c =
    let f = image c.args.self.0 in
    let g = image c.args.first.0 in
    c.from_images.ensures
    ∙ ap (turn Kind.Images Kind.Quadword)
    (made_table _ _ 8 (λ b. f (g (1 * 2 ^ b % 2 ^ 8))) (λ b y d h k. search rules) c.from_fn.ensures.items
    ∙ tab_below 8 (λ b h. ap (λ (x : ℕ). f (g x)) (shl_one 8 b h)))
    ∙ find_via (images 8) quadword (after f g) ((linear_closed 8).closed f g (image_linear c.args.self.0) (image_linear c.args.first.0))
