-- `sweeps::mul_slice` meets its contract: after i turns the i first bytes are products, and the others as they were.
-- Assumes nothing.
use Rattle.std.proofs.Common.{◌∙◌, ℕ, refl, ap, get_or, eq-eqb, le_refl, arith, rules}
use Rattle.gf2.specs.Residue.{mul}
use Rattle.gf2.proofs.Sweep.{swept_turn, swept_all}
use Rattle.sweeps.proofs.mul_slice.Goals as goal

pub loop-i-preserved : goal.loop-i-preserved
loop-i-preserved c =
    let l = c.loop-i in
    let src = c.args.src.now in
    let e = c.mul_bytes.ensures ∙ ap (λ (x : ℕ). mul 8 0x1b x (get_or src l.i 0)) (l.invariant.rest l.i (le_refl l.i)) in
    swept_turn (search rules) l.invariant e

pub returns : goal.returns
returns c =
    let l = c.loop-i in
    simp (eq-eqb _ _ c.if-dst-src.false) (record { answer = refl; bytes = swept_all l.invariant (omega (arith, l.invariant.filled.size)) })
