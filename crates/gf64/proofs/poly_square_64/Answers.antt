-- `gf64::poly_square_64` meets its contract: the bits spread, reduced. Assumes nothing.
use mathlib.Core.Path.{◌∙◌}
use borrow.Author.Rules.{rules}
use Rattle.gf64.proofs.Product.{rem_square}
use Rattle.gf64.proofs.poly_square_64.Goals as goal

pub returns : goal.returns
returns c = c.reduce_64.ensures ∙ rem_square (search rules) c.spread_bits_64.ensures
