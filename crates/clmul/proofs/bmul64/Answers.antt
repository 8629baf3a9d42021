-- `clmul::bmul64` meets its contract: the law `bmul_of`, handed the sixteen products. Place c of the code comes after the
-- sixteenth call, c15 after the fifteenth, .., a before the first. `wrapping_mul_64` requires nothing: `λ c κs. tt`. Assumes nothing.
use Rattle.clmul.proofs.Bmul.{bmul_of}
use Rattle.clmul.proofs.bmul64.Goals as goal

pub returns : goal.returns
returns c =
    bmul_of c.args.x c.args.y c.ranges.x.fits
    c.wrapping_mul_64.ensures c.wrapping_mul_64-2.ensures c.wrapping_mul_64-3.ensures c.wrapping_mul_64-4.ensures
    c.wrapping_mul_64-5.ensures c.wrapping_mul_64-6.ensures c.wrapping_mul_64-7.ensures c.wrapping_mul_64-8.ensures
    c.wrapping_mul_64-9.ensures c.wrapping_mul_64-10.ensures c.wrapping_mul_64-11.ensures c.wrapping_mul_64-12.ensures
    c.wrapping_mul_64-13.ensures c.wrapping_mul_64-14.ensures c.wrapping_mul_64-15.ensures c.wrapping_mul_64-16.ensures
