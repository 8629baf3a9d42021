-- `tower::mul_alpha` meets its contract: the last of the written images is that of X2. Assumes nothing.
use mathlib.Core.Path.{sym, ap₂, ◌∙◌}
use lib.Dec.{lit<}
use Rattle.towers.specs.Basis.{bmul, xi}
use Rattle.towers.specs.Mul.{gen}
use Rattle.towers.proofs.Change.{out-gen}
use Rattle.tower.proofs.mul_alpha.Goals as goal

pub returns : goal.returns
unfolding gen xi
returns c =
    c.from_byte.ensures ∙ c.mul_bytes.ensures
    ∙ ap₂ bmul c.to_byte.ensures (sym (out-gen 3 (lit< tt)))
