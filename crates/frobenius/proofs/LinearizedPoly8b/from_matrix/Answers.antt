-- `frobenius::LinearizedPoly8b::from_matrix` meets its contract: the images on the way change nothing. Assumes nothing.
use mathlib.Core.Path.{ap, ◌∙◌}
use Rattle.spellings.specs.Quadword.{image}
use Rattle.spellings.specs.Kinds.{turn, Kind}
use Rattle.spellings.proofs.Spelling.{find_via}
use Rattle.spellings.proofs.Quadword.{image_linear}
use Rattle.spellings.proofs.Bytes.{kind}
use Rattle.frobenius.specs.Elements.{elements}
use Rattle.frobenius.proofs.LinearizedPoly8b.from_matrix.Goals as goal

pub returns : goal.returns
returns c =
    let q = c.args.map.0 in
    c.from_images.ensures
    ∙ ap elements
    (ap (turn Kind.Images Kind.Coefficients) c.images-images.ensures
    ∙ find_via (kind Kind.Images) (kind Kind.Coefficients) (image q) (image_linear q))
