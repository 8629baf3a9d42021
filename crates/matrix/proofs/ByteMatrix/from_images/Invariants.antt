use mathlib.Core.Path.{◌≡◌}
use mathlib.Core.List.{List}
use Prim.Native.Nat.{ℕ, ◌-◌, ◌/◌, ◌%◌, ◌^◌}
use Rattle.gf2.specs.Poly.{coef}
use Rattle.gf2.specs.Bits.{poly}
use Rattle.gf2.specs.Linear.{apply}
use Rattle.matrix.proofs.ByteMatrix.from_images.Given as goal

abbrev pub bits : List ℕ → ℕ → ℕ
bits l k = coef (apply l (2 ^ (k % 8))) (7 - k / 8)

abbrev pub invariant-loop-k : goal.invariant-loop-k
invariant-loop-k l = l.quadword ≡ poly l.k (bits l.images)
