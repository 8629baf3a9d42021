-- `tower::tower_alpha` meets its contract: `alpha_step`, by the level as the measure. Assumes nothing.
use Rattle.std.proofs.Common.{◌≡◌, suc, ◌-◌, ap, arith}
use Rattle.towers.proofs.Level.{lo-lt}
use Rattle.towers.proofs.Mul.{talpha-lt}
use Rattle.towers.proofs.Step.{sum_fits, eq-lt, alpha_bits, alpha_step}
use Rattle.tower.specs.Split.{index, level}
use Rattle.tower.proofs.+tower_alpha.Goals as goal

pub returns-in_default : goal.returns-in_default
returns-in_default t c = rw c.in_default.is (alpha_bits c.args.a)

pub joined-requires : goal.joined-requires
joined-requires t c = sum_fits _ (eq-lt c.low.ensures (lo-lt _ _)) (eq-lt (rw c.below.ensures at c.tower_alpha.ensures) (talpha-lt _ _))

pub returns : goal.returns
returns t c =
    let up : level c.args.top ≡ suc (index c.in-Some.k) = ap level c.in-Some.is in
    let down : level c.args.top - 1 ≡ index c.in-Some.k = omega arith in
    cc (alpha_step (level c.args.top) c.args.a (λ z. omega arith))
