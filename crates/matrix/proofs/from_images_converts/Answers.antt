-- `matrix::from_images_converts` meets its contract: `converts`, for an array of eight bytes is one. Assumes nothing.
use borrow.Author.Rules.{rules}
use Rattle.spellings.specs.Kinds.{Kind}
use Rattle.spellings.proofs.Bytes.{converts}
use Rattle.matrix.proofs.from_images_converts.Goals as goal

pub returns : goal.returns
returns c =
    converts Kind.Images Kind.Quadword c.args.images (record { size = search rules; below = λ i. search rules }) c.from_images.ensures
