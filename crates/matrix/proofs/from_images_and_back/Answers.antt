-- `matrix::from_images_and_back` meets its contract: eight bytes, turned there and back, are themselves. Assumes nothing.
use borrow.Author.Rules.{rules}
use Rattle.spellings.specs.Kinds.{Kind}
use Rattle.spellings.proofs.Bytes.{there_and_back}
use Rattle.matrix.proofs.from_images_and_back.Goals as goal

pub returns : goal.returns
returns c =
    there_and_back Kind.Images Kind.Quadword c.args.images (record { size = search rules; below = λ i. search rules })
    c.from_images.ensures c.images.ensures
