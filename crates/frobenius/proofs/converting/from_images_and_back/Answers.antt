-- `frobenius::converting::from_images_and_back` meets its contract: turned there and back, eight bytes are themselves. Assumes nothing.
use borrow.Author.Rules.{rules}
use Rattle.spellings.specs.Kinds.{Kind}
use Rattle.spellings.proofs.Bytes.{there_and_back}
use Rattle.frobenius.proofs.Elements.{spelled}
use Rattle.frobenius.proofs.converting.from_images_and_back.Goals as goal

pub returns : goal.returns
returns c =
    there_and_back Kind.Images Kind.Coefficients c.args.images (record { size = search rules; below = λ i. search rules })
    (spelled c.from_images.result c.from_images.ensures) c.to_images.ensures
