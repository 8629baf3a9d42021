-- `frobenius::converting::from_matrix_converts` meets its contract: `converts`, for the quadword has 64 bits. Assumes nothing.
use borrow.Author.Rules.{rules}
use Rattle.spellings.specs.Kinds.{Kind}
use Rattle.spellings.proofs.Bytes.{converts}
use Rattle.frobenius.proofs.Elements.{spelled}
use Rattle.frobenius.proofs.converting.from_matrix_converts.Goals as goal

pub returns : goal.returns
returns c =
    converts Kind.Quadword Kind.Coefficients c.args.map.0 (search rules)
    (spelled c.from_matrix.result c.from_matrix.ensures)
