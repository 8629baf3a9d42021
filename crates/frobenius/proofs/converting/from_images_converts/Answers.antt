-- `frobenius::converting::from_images_converts` meets its contract: `converts`, for the images are bytes. Assumes nothing.
use borrow.Author.Rules.{rules}
use Rattle.spellings.specs.Kinds.{Kind}
use Rattle.spellings.proofs.Bytes.{converts}
use Rattle.frobenius.proofs.Elements.{spelled}
use Rattle.frobenius.proofs.converting.from_images_converts.Goals as goal

pub returns : goal.returns
returns c =
    converts Kind.Images Kind.Coefficients c.args.images (record { size = search rules; below = λ i. search rules })
    (spelled c.from_images.result c.from_images.ensures)
