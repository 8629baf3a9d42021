-- A sum of products needs one reduction only: the remainder keeps sums.
use mathlib.Core.Path.{◌≡◌}
use Prim.Native.Nat.{ℕ, ◌^◌, ◌<◌}
use Rattle.gf2.specs.Poly.{xsum, cmul}
use Rattle.gf2.specs.Residue.{rem, mul, dot}
use Rattle.gf2.proofs.Sum.{xsum-map, xsum-lt}
use Rattle.gf2.proofs.Rem.{rem-xor}
use Rattle.gf2.proofs.Ring.{mul-lt}

pub rem-dot : (n t k : ℕ) (x y : ℕ → ℕ) → rem n t (xsum k (λ i. cmul (x i) (y i))) ≡ dot n t k x y
unfolding dot mul
rem-dot n t k x y = xsum-map (rem n t) (rem-xor n t) k (λ i. cmul (x i) (y i))

pub dot-lt : (n t : ℕ) → t < 2 ^ n → (k : ℕ) (x y : ℕ → ℕ) → dot n t k x y < 2 ^ n
unfolding dot
dot-lt n t ht k x y = xsum-lt n k (λ i l. mul-lt n t ht (x i) (y i))
