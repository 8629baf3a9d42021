-- `tower::tower_images` meets its contract: after the turns below j the images below j stand, and the next one comes from an
-- earlier one by the generator split off. Assumes nothing.
use mathlib.Core.Path.{◌≡◌, refl, sym, ap₂, ◌∙◌, subst}
use Prim.Native.Nat.{ℕ, ◌<◌, ◌-◌}
use native.Mathlib.Omega.{arith}
use lib.Bits.{bit_and, and_le_r}
use lib.ListN.{get_or, replicate}
use borrow.Author.Rules.{rules}
use Rattle.towers.specs.Basis.{bmul, xi, monomial_image, out_images}
use Rattle.gf2.proofs.Table.{filled_turn, filled_all}
use Rattle.towers.proofs.Basis.{image_split, lowest_lt, image-zero}
use Rattle.tower.proofs.tower_images.Goals as goal

pub loop-j-init : goal.loop-j-init
loop-j-init c = record { size = refl; done = first }
  where
    first : (k : ℕ) → k < 1 → get_or (replicate 8 1) k 0 ≡ monomial_image 3 k
    first k l = let e : 0 ≡ k = omega arith in subst (λ (k : ℕ). get_or (replicate 8 1) k 0 ≡ monomial_image 3 k) e (sym image-zero)

pub bounds-lowest : goal.bounds-lowest
bounds-lowest c = lowest_lt c.loop-j.j c.loop-j-test.true (λ e. omega arith)

pub loop-j-preserved : goal.loop-j-preserved
unfolding xi
loop-j-preserved c =
    let l = c.loop-j in
    let j = l.j in
    let rest = l.invariant.done (bit_and j (j - 1)) (omega (arith, and_le_r j (j - 1))) in
    filled_turn (search rules) l.invariant
    (c.mul_bytes.ensures ∙ ap₂ bmul refl rest ∙ image_split j c.loop-j-test.true (λ e. omega arith))

pub returns : goal.returns
unfolding out_images
returns c = let e : c.loop-j.j ≡ 8 = omega arith in filled_all (rw e at c.loop-j.invariant)
