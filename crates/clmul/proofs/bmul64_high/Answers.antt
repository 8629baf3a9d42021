-- `clmul::bmul64_high` meets its contract: the law `high_half`, handed the four calls. Assumes nothing.
use mathlib.Core.Path.{ap, ap₂, ◌∙◌}
use Prim.Native.Nat.{ℕ, ◌/◌, ◌%◌, ◌^◌}
use Rattle.gf2.specs.Poly.{cmul}
use Rattle.words.specs.Words.{rev}
use Rattle.clmul.proofs.Halves.{high_half}
use Rattle.clmul.proofs.bmul64_high.Goals as goal

pub returns : goal.returns
returns c =
    ap (λ (x : ℕ). x / 2)
    (c.reverse_bits_64-3.ensures
    ∙ ap (rev 64) (c.bmul64.ensures
    ∙ ap₂ (λ (x y : ℕ). cmul x y % 2 ^ 64) c.reverse_bits_64.ensures c.reverse_bits_64-2.ensures))
    ∙ high_half c.args.a c.args.b c.ranges.a.fits c.ranges.b.fits
