-- `frobenius::converting::to_matrix_converts` meets its contract: `converts`, for the coefficients are bytes. Assumes nothing.
use Rattle.spellings.specs.Kinds.{Kind}
use Rattle.spellings.proofs.Bytes.{converts}
use Rattle.frobenius.specs.Elements.{bytes}
use Rattle.frobenius.proofs.Owned.{eight_coefficients}
use Rattle.frobenius.proofs.converting.to_matrix_converts.Goals as goal

pub returns : goal.returns
returns c =
    converts Kind.Coefficients Kind.Quadword (bytes c.args.p.0) (eight_coefficients c.args.p _ c.well_formed.0) c.to_matrix.ensures
