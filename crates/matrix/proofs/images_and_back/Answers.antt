-- `matrix::images_and_back` meets its contract: a matrix is its quadword, which turned there and back is itself. Assumes nothing.
use borrow.Author.Rules.{rules}
use Rattle.spellings.specs.Kinds.{Kind}
use Rattle.spellings.proofs.Bytes.{there_and_back}
use Rattle.matrix.proofs.images_and_back.Goals as goal

pub returns : goal.returns
returns c =
    let e = there_and_back Kind.Quadword Kind.Images c.args.map.0 (search rules) c.images.ensures c.from_images.ensures in
    λ i. record { 0 = e i }
