-- `frobenius::converting::to_matrix_and_back` meets its contract: turned there and back, the coefficients are themselves. Assumes nothing.
use Rattle.spellings.specs.Kinds.{Kind}
use Rattle.spellings.proofs.Bytes.{there_and_back}
use Rattle.frobenius.specs.Elements.{bytes}
use Rattle.frobenius.proofs.Elements.{spelled, poly_same}
use Rattle.frobenius.proofs.Owned.{eight_coefficients}
use Rattle.frobenius.proofs.converting.to_matrix_and_back.Goals as goal

pub returns : goal.returns
returns c =
    poly_same
    (there_and_back Kind.Coefficients Kind.Quadword (bytes c.args.p.0) (eight_coefficients c.args.p _ c.well_formed.0) c.to_matrix.ensures
    (spelled c.from_matrix.result c.from_matrix.ensures))
