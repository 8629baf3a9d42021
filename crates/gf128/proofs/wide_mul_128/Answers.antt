-- `gf128::wide_mul_128` meets its contract. Assumes nothing.
use Rattle.std.proofs.Common.{rules}
use Rattle.gf128.proofs.Karatsuba.{middle, middle_low, middle_high}
use Rattle.gf128.proofs.wide_mul_128.Goals as goal

pub returns : goal.returns
returns c =
    let a = c.args.a in
    let b = c.args.b in
    let l = c.clmul_64x64-l.ensures in
    let h = c.clmul_64x64-h.ensures in
    let m = middle a b (search rules) (search rules) (search rules) (search rules) l h
    c.clmul_64x64-m.ensures c.bitxor.ensures c.bitxor-m.ensures in
    record {
      low = middle_low a b (search rules) (search rules) (search rules) (search rules) l h m;
      high = middle_high a b (search rules) (search rules) (search rules) (search rules) l h m;
    }
