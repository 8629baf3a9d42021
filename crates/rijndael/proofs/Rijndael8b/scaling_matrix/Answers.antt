-- `rijndael::Rijndael8b::scaling_matrix` meets its contract: the eight images give the matrix. Assumes nothing.
use Rattle.std.proofs.Common.{◌≡◌, ◌^◌, ◌∙◌, sym, get_or, rules}
use Rattle.gf2.specs.Bits.{tab}
use Rattle.gf2.specs.Residue.{mul}
use Rattle.gf2.proofs.Table.{tab-get_or}
use Rattle.rijndael.proofs.Scaling.{scaling_images}
use Rattle.rijndael.proofs.Rijndael8b.scaling_matrix.Goals as goal

pub returns : goal.returns
unfolding tab
returns c =
    let r = c.from_fn.result in
    let images : tab 8 (λ i. get_or r i 0) ≡ tab 8 (λ b. mul 8 0x1b c.args.self.0 (2 ^ b)) = search rules in
    c.from_images.ensures ∙ scaling_images c.args.self.0 (sym (tab-get_or 8 r 0 c.from_fn.ensures.items.long) ∙ images)
