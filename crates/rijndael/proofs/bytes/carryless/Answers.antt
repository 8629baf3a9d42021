-- `rijndael::bytes::carryless` meets its contract: after i turns `acc` is the product by the i lowest bits of b.
-- Assumes nothing.
use Rattle.std.proofs.Common.{◌≡◌, ◌+◌, ◌-◌, ◌/◌, ◌%◌, ◌^◌, ap, ◌∙◌, mod-eq_of_lt, arith, rules}
use lib.Bits.{bit_and}
use Rattle.gf2.specs.Poly.{cmul}
use Rattle.gf2.proofs.Mask.{shl_select}
use Rattle.gf2.proofs.Narrow.{cmul_none, cmul_turn}
use Rattle.rijndael.proofs.bytes.carryless.Goals as goal

pub loop-i-init : goal.loop-i-init
loop-i-init c = cmul_none _ _

pub loop-i-preserved : goal.loop-i-preserved
loop-i-preserved c =
    let l = c.loop-i in
    let a = c.args.a in
    let b = c.args.b in
    let x = c.from-selected.result in
    let r = (0 + (65536 - x)) % 65536 in
    let e : (r + bit_and (b / 2 ^ l.i) 1) % 2 ^ 16 ≡ 0 = omega arith in
    rw c.from-wide.ensures (cmul_turn a b l.i l.invariant (shl_select 8 l.i 16 a r (b / 2 ^ l.i) (search rules) (omega arith) (omega arith) e))

pub returns : goal.returns
returns c =
    let e : c.loop-i.i ≡ 8 = omega arith in
    (rw e at c.loop-i.invariant) ∙ ap (cmul c.args.a) (mod-eq_of_lt (search rules))
