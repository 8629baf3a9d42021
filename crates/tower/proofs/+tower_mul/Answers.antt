-- `tower::tower_mul` meets its contract: `mul_step`, by the level as the measure. Assumes nothing.
use Rattle.std.proofs.Common.{◌≡◌, suc, ◌-◌, ap, arith}
use Rattle.towers.proofs.Mul.{talpha-lt, tmul-lt}
use Rattle.towers.proofs.Step.{eq-lt, sum_fits_4, mul_bits, mul_step}
use Rattle.tower.specs.Split.{index, level}
use Rattle.tower.proofs.+tower_mul.Goals as goal

pub returns-in_default : goal.returns-in_default
returns-in_default t c = rw c.in_default.is (mul_bits c.args.a c.args.b)

pub joined-requires : goal.joined-requires
joined-requires t c =
    let e = c.below-half.ensures in
    sum_fits_4 _
    (eq-lt (rw e at c.tower_mul.ensures) (tmul-lt _ _ _)) (eq-lt (rw e at c.tower_mul-z0.ensures) (tmul-lt _ _ _))
    (eq-lt (rw e at c.tower_mul-z2.ensures) (tmul-lt _ _ _)) (eq-lt (rw e at c.tower_alpha.ensures) (talpha-lt _ _))

pub returns : goal.returns
returns t c =
    let up : level c.args.top ≡ suc (index c.in-Some.k) = ap level c.in-Some.is in
    let down : level c.args.top - 1 ≡ index c.in-Some.k = omega arith in
    cc (mul_step (level c.args.top) c.args.a c.args.b (λ z. omega arith))
