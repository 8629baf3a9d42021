-- `gf64::poly_mul_64` meets its contract: the carryless product, reduced. Assumes nothing.
use mathlib.Core.Path.{◌∙◌}
use borrow.Author.Rules.{rules}
use Rattle.gf64.proofs.Product.{rem-product}
use Rattle.gf64.proofs.poly_mul_64.Goals as goal

pub returns : goal.returns
returns c = c.reduce_64.ensures ∙ rem-product (search rules) (search rules) c.clmul_64x64.ensures
