-- `matrix::ByteMatrix::apply_slice` meets its contract: after i turns the first i bytes are images, and the others as they
-- were. Assumes nothing.
use mathlib.Core.Path.{ap, ◌∙◌}
use native.Mathlib.Nat.{le_refl}
use native.Mathlib.Omega.{arith}
use borrow.Author.Rules.{rules}
use Rattle.spellings.specs.Quadword.{image}
use Rattle.gf2.proofs.Sweep.{swept_none, swept_turn, swept_all}
use Rattle.matrix.proofs.ByteMatrix.apply_slice.Goals as goal

pub loop-byte-init : goal.loop-byte-init
loop-byte-init c = swept_none

pub loop-byte-preserved : goal.loop-byte-preserved
loop-byte-preserved c =
    let l = c.loop-byte in
    let q = c.args.self.0 in
    swept_turn (search rules) l.invariant (c.apply.ensures ∙ ap (image q) (l.invariant.rest l.byte-index (le_refl l.byte-index)))

pub returns : goal.returns
returns c = let l = c.loop-byte in swept_all l.invariant (omega (arith, l.invariant.filled.size))
