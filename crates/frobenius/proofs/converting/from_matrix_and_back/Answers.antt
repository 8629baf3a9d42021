-- `frobenius::converting::from_matrix_and_back` meets its contract: turned there and back, the quadword is itself. Assumes nothing.
use mathlib.Core.Path.{ap}
use borrow.Author.Rules.{rules}
use Rattle.spellings.specs.Kinds.{Kind}
use Rattle.spellings.proofs.Bytes.{there_and_back}
use Rattle.frobenius.proofs.Elements.{matrix, spelled}
use Rattle.frobenius.proofs.converting.from_matrix_and_back.Goals as goal

pub returns : goal.returns
returns c =
    ap matrix
    (there_and_back Kind.Quadword Kind.Coefficients c.args.map.0 (search rules) (spelled c.from_matrix.result c.from_matrix.ensures)
    c.to_matrix.ensures)
