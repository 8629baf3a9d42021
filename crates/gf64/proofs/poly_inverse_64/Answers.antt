-- `gf64::poly_inverse_64` meets its contract: the chain 1, 2, 3, 6, 12, 24, 48, 60, 63 and a last squaring. No callee
-- requires anything: `λ c κs. tt`. Assumes nothing.
use mathlib.Core.Path.{◌≡◌}
use borrow.Author.Rules.{rules}
use Rattle.gf64.proofs.Chain.{ones, ones-one, ones_step, frob-one, ones_end}
use Rattle.gf64.proofs.poly_inverse_64.Goals as goal

pub returns : goal.returns
returns c =
    -- the products, and before each the squarings of its first factor
    let x = c.args.x in
    let b2 = c.poly_mul_64-b2.result in
    let e1 : x ≡ ones 1 x = ones-one x (search rules) in
    let e2 : b2 ≡ ones 2 x = ones_step x 1 1 e1 e1 (frob-one x c.poly_square_64.ensures) c.poly_mul_64-b2.ensures in
    let e3 : c.poly_mul_64-b3.result ≡ ones 3 x = ones_step x 2 1 e2 e1 (frob-one b2 c.poly_square_64-2.ensures) c.poly_mul_64-b3.ensures in
    let e6 : c.poly_mul_64-b6.result ≡ ones 6 x = ones_step x 3 3 e3 e3 c.square_times.ensures c.poly_mul_64-b6.ensures in
    let e12 : c.poly_mul_64-b12.result ≡ ones 12 x = ones_step x 6 6 e6 e6 c.square_times-2.ensures c.poly_mul_64-b12.ensures in
    let e24 : c.poly_mul_64-b24.result ≡ ones 24 x = ones_step x 12 12 e12 e12 c.square_times-3.ensures c.poly_mul_64-b24.ensures in
    let e48 : c.poly_mul_64-b48.result ≡ ones 48 x = ones_step x 24 24 e24 e24 c.square_times-4.ensures c.poly_mul_64-b48.ensures in
    let e60 : c.poly_mul_64-b60.result ≡ ones 60 x = ones_step x 48 12 e48 e12 c.square_times-5.ensures c.poly_mul_64-b60.ensures in
    let e63 : c.poly_mul_64-b63.result ≡ ones 63 x = ones_step x 60 3 e60 e3 c.square_times-6.ensures c.poly_mul_64-b63.ensures in
    ones_end x e63 c.poly_square_64-3.ensures
