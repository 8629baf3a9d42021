-- `matrix::ByteMatrix::from_images` meets its contract: after k turns the bits below k are there. Assumes nothing.
use mathlib.Core.Path.{◌≡◌, sym, ap, ◌∙◌}
use Prim.Native.Nat.{ℕ, ◌-◌, ◌/◌, ◌%◌, ◌^◌}
use native.Mathlib.Omega.{arith}
use lib.Bits.{and_le_r}
use lib.ListN.{get_or}
use borrow.Author.Rules.{rules}
use Rattle.gf2.specs.Poly.{coef}
use Rattle.spellings.specs.Quadword.{find_quadword}
use Rattle.gf2.proofs.Shift.{coef-lt}
use Rattle.gf2.proofs.Bits.{poly-nil, poly_turn, coef_mask}
use Rattle.spellings.proofs.Images.{apply-pow}
use Rattle.matrix.proofs.ByteMatrix.from_images.Invariants.{bits}
use Rattle.matrix.proofs.ByteMatrix.from_images.Goals as goal

pub loop-k-init : goal.loop-k-init
loop-k-init c = sym (poly-nil _)

pub overflow_cast-quadword-in-loop-k : goal.overflow_cast-quadword-in-loop-k
overflow_cast-quadword-in-loop-k c = omega (arith, and_le_r (get_or c.args.images (c.loop-k.k % 8) 0 / 2 ^ (7 - c.loop-k.k / 8)) 1)

pub loop-k-preserved : goal.loop-k-preserved
loop-k-preserved c =
    let l = c.loop-k in
    let s = c.args.images in
    poly_turn 64 l.k (bits s) (search rules) (coef-lt _ _) l.invariant
    (coef_mask _ _ ∙ ap (λ (x : ℕ). coef x (7 - l.k / 8)) (sym (apply-pow s (l.k % 8))))

pub returns : goal.returns
unfolding find_quadword
returns c = let e : c.loop-k.k ≡ 64 = omega arith in rw e at c.loop-k.invariant
