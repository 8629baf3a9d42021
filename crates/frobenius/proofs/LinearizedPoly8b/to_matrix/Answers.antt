-- `frobenius::LinearizedPoly8b::to_matrix` meets its contract: the images on the way change nothing. Assumes nothing.
use mathlib.Core.Path.{ap, ◌∙◌}
use lib.Dec.{lit<}
use Rattle.spellings.specs.Lists.{eval}
use Rattle.spellings.specs.Kinds.{turn, Kind}
use Rattle.spellings.proofs.Spelling.{find_via}
use Rattle.spellings.proofs.Coefficients.{eval_linear}
use Rattle.spellings.proofs.Bytes.{kind}
use Rattle.frobenius.specs.Elements.{bytes}
use Rattle.frobenius.proofs.LinearizedPoly8b.to_matrix.Goals as goal

pub returns : goal.returns
returns c =
    let s = c.args.self.0 in
    c.from_images.ensures ∙ ap (turn Kind.Images Kind.Quadword) c.to_images-images.ensures
    ∙ find_via (kind Kind.Images) (kind Kind.Quadword) (eval 8 0x1b (bytes s)) (eval_linear 8 0x1b (lit< tt) (bytes s))
