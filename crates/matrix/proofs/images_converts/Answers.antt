-- `matrix::images_converts` meets its contract: `converts`, for the quadword is one of 64 bits. Assumes nothing.
use borrow.Author.Rules.{rules}
use Rattle.spellings.specs.Kinds.{Kind}
use Rattle.spellings.proofs.Bytes.{converts}
use Rattle.matrix.proofs.images_converts.Goals as goal

pub returns : goal.returns
returns c = converts Kind.Quadword Kind.Images c.args.map.0 (search rules) c.images.ensures
