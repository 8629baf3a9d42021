-- `gf64::poly_sqrt_64` meets its contract: its square is the argument, and only the root has that square. Assumes nothing.
use mathlib.Core.Path.{ap, ap₂, ◌∙◌}
use borrow.Author.Rules.{rules}
use Rattle.gf2.specs.Poly.{◌⊕◌}
use Rattle.gf2.specs.Residue.{mul}
use Rattle.gf64.proofs.Root.{root-parts}
use Rattle.gf64.proofs.poly_sqrt_64.Goals as goal

pub returns : goal.returns
returns c =
    ap₂ ◌⊕◌ c.compact_even-even.ensures (c.poly_mul_64.ensures ∙ ap (mul 64 0x1b 0xffff_ffff_0000_000a) c.compact_even-odd.ensures)
    ∙ root-parts c.args.a (search rules)
