-- `gf128::poly_square_128` meets its contract. Assumes nothing.
use Rattle.std.proofs.Common.{rules, ap, ◌∙◌, ℕ}
use Rattle.gf2.specs.Residue.{rem, sq}
use Rattle.words.specs.Limbs.{limbs}
use Rattle.gf128.proofs.Square.{spread_halves}
use Rattle.gf128.proofs.poly_square_128.Goals as goal

pub returns : goal.returns
unfolding sq
returns c =
    c.reduce_128.ensures
    ∙ ap (λ (x : ℕ). limbs (rem 128 0x87 x))
    (spread_halves c.args.a (search rules) (search rules) c.spread_bits_64-low.ensures c.spread_bits_64-high.ensures)
