-- `togasipe::sweep::togasipe_apply_slice` meets its contract: the answer of the call below crosses as it is. Assumes nothing.
use mathlib.Core.Path.{ap, ◌∙◌}
use Prim.Native.Nat.{ℕ}
use lib.ListN.{length, get_or}
use Rattle.gf2.specs.Bits.{tab}
use Rattle.spellings.specs.Quadword.{image}
use Rattle.togasipe.proofs.sweep.togasipe_apply_slice.Goals as goal

pub returns : goal.returns
returns c =
    let l = c.args.dst.now in
    c.apply_slice.ensures
    ∙ ap (λ (q : ℕ). tab (length l) (λ k. image q (get_or l k 0))) c.from_quadword.ensures
