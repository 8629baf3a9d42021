-- `rijndael::bytes::mul_bytes` meets its contract: the two folds give the remainder of the product. Assumes nothing.
use Rattle.std.proofs.Common.{ap, ◌∙◌, rules}
use Rattle.gf2.specs.Residue.{rem, mul}
use Rattle.gf2.proofs.Cmul.{cmul-lt}
use Rattle.rijndael.proofs.Folds.{folds}
use Rattle.rijndael.proofs.bytes.mul_bytes.Goals as goal

pub returns : goal.returns
unfolding mul
returns c =
    let p = c.carryless-product in
    folds p.result (rw p.ensures (cmul-lt 7 7 (search rules) (search rules))) c.fold_tail-folded.ensures c.fold_tail.ensures
    ∙ ap (rem 8 0x1b) p.ensures
