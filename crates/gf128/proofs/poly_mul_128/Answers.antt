-- `gf128::poly_mul_128` meets its contract. Assumes nothing.
use Rattle.std.proofs.Common.{rules, ◌∙◌}
use Rattle.gf2.specs.Poly.{cmul}
use Rattle.gf2.specs.Residue.{mul}
use Rattle.words.specs.Limbs.{value}
use Rattle.words.proofs.Value.{value-lt}
use Rattle.gf128.proofs.Blocks.{rem_halves, cmul_values_lt}
use Rattle.gf128.proofs.poly_mul_128.Goals as goal

pub returns : goal.returns
unfolding mul
returns c =
    let a = c.args.a in
    let b = c.args.b in
    let p = c.wide_mul_128-product.ensures in
    c.reduce_128.ensures
    ∙ rem_halves (cmul (value a) (value b))
    (cmul_values_lt (value-lt a (search rules) (search rules)) (value-lt b (search rules) (search rules))) p.low p.high
