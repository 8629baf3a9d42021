-- `reduce::reduce_64` meets its contract: the two folds. Assumes nothing.
use mathlib.Core.Path.{sym, ap, ap₂, ◌∙◌}
use Prim.Native.Nat.{ℕ, ◌%◌, ◌^◌, ◌<◌}
use native.Mathlib.Omega.{arith}
use lib.Dec.{lit≤, lit<}
use Rattle.gf2.specs.Poly.{◌⊕◌, cmul}
use Rattle.reduce.proofs.Folds.{rem-folded}
use Rattle.reduce.proofs.reduce_64.Goals as goal

pub returns : goal.returns
returns c =
    let lo = c.args.product.low in
    let hi = c.args.product.high in
    let hl : lo < 2 ^ 64 = omega arith in
    let hh : hi < 2 ^ 64 = omega arith in
    ap₂ (λ (x y : ℕ). lo ⊕ x ⊕ y) c.folded.ensures
    (c.folded-2.ensures ∙ ap (λ (x : ℕ). cmul x 0x1b % 2 ^ 64) c.spilled-spill.ensures)
    ∙ sym (rem-folded 64 4 0x1b (lit< tt) (lit≤ tt) hi lo hh hl (lit< tt))
