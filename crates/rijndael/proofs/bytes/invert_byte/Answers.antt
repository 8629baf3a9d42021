-- `rijndael::bytes::invert_byte` meets its contract: the chain adds up to the power 254. Assumes nothing.
use Rattle.std.proofs.Common.{◌≡◌, ℕ, ◌+◌, lit<, rules}
use Rattle.gf2.specs.Residue.{mul, pow, inv}
use Rattle.gf2.proofs.Ring.{mul-one_r}
use Rattle.gf2.proofs.Power.{pow_plus}
use Rattle.rijndael.proofs.bytes.invert_byte.Goals as goal

plus : (a i j : ℕ) → pow 8 0x1b a (i + j) ≡ mul 8 0x1b (pow 8 0x1b a i) (pow 8 0x1b a j)
plus = pow_plus 8 0x1b (lit< tt) (lit< tt)

pub returns : goal.returns
unfolding inv pow
returns c =
    let a = c.args.a in
    let one : pow 8 0x1b a 1 ≡ a = mul-one_r 8 0x1b a (search rules) in
    cc (plus a 1 1, plus a 2 1, plus a 3 3, plus a 6 6, plus a 12 3, plus a 15 15, plus a 30 30, plus a 60 60, plus a 120 120, plus a 240 12, plus a 252 2)
