-- The dual basis of the byte field: both computed tests that the coefficients rest on.
use Prim.Native.Nat.{ℕ, ◌^◌, ◌<◌}
use lib.Dec.{T, ltb, ltb→lt}
use lib.ListN.{get_or}
use Rattle.gf2.specs.Poly.{bin_rec, bin_go, xsum, cmul, spread}
use Rattle.gf2.specs.Residue.{red, rem, mul, sq, frob}
use Rattle.spellings.specs.Lists.{times, dual, dual8}
use Rattle.gf2.proofs.Sum.{δ}
use Rattle.gf2.proofs.Linear.{all, all_at}
use Rattle.spellings.proofs.Rows.{undo_test}
use Rattle.spellings.proofs.Coefficients.{basis}

pub dual8-lt : (b : ℕ) → b < 8 → get_or dual8 b 0 < 2 ^ 8
unfolding dual8 all
dual8-lt b h = ltb→lt (get_or dual8 b 0) (2 ^ 8) (all_at 8 (λ b. ltb (get_or dual8 b 0) (2 ^ 8)) tt b h)

pub there8 : T (undo_test 8 0x1b (dual 8 0x1b dual8) (basis 8 0x1b))
unfolding undo_test times xsum δ all dual8 frob sq mul rem red spread cmul bin_rec bin_go
there8 = tt

pub back8 : T (undo_test 8 0x1b (basis 8 0x1b) (dual 8 0x1b dual8))
unfolding undo_test times xsum δ all dual8 frob sq mul rem red spread cmul bin_rec bin_go
back8 = tt
