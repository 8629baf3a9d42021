-- The image of tower byte 13 generates the bytes: its first 255 powers are distinct.
use mathlib.Core.Path.{◌≡◌, refl, ◌∙◌}
use mathlib.Core.Logic.{◌≢◌}
use Prim.Native.Nat.{ℕ, ◌<◌}
use native.Mathlib.Omega.{arith}
use lib.Dec.{T, lit<}
use Rattle.gf2.specs.Poly.{bin_rec, bin_go, cmul}
use Rattle.gf2.specs.Linear.{apply}
use Rattle.gf2.specs.Residue.{red, rem, mul, pow}
use Rattle.towers.specs.Basis.{out}
use Rattle.fields.proofs.Field8.{field8}
use Rattle.towers.proofs.Basis.{written, out_is}
use Rattle.towers.proofs.Order.{fresh, distinct}

written_generator : apply written 0x13 ≡ 0x88
unfolding apply
written_generator = refl

pub generator : out 0x13 ≡ 0x88
generator = out_is 0x13 ∙ written_generator

fresh_tested : T (fresh 8 0x1b 0x88 254 (pow 8 0x1b 0x88 1))
unfolding fresh pow mul rem red cmul bin_rec bin_go
fresh_tested = tt

pub powers : (i j : ℕ) → i < j → j < 255 → pow 8 0x1b (out 0x13) i ≢ pow 8 0x1b (out 0x13) j
powers = rw generator (distinct field8 0x88 (lit< tt) (λ e. omega arith) 254 fresh_tested)
