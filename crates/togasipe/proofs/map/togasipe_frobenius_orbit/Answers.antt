-- `togasipe::map::togasipe_frobenius_orbit` meets its contract: the answer of the call below crosses as it is. Assumes nothing.
use mathlib.Core.Path.{ap, ◌∙◌}
use Prim.Native.Nat.{ℕ}
use Rattle.gf2.specs.Bits.{tab}
use Rattle.gf2.specs.Residue.{frob}
use Rattle.gf2.proofs.Table.{map-tab}
use Rattle.rijndael.specs.Element.{element}
use Rattle.rijndael.specs.declared.Rijndael8b.{Rijndael8b}
use Rattle.frobenius.specs.Elements.{bytes}
use Rattle.togasipe.proofs.map.togasipe_frobenius_orbit.Goals as goal

pub returns : goal.returns
returns c =
    let x = c.from_byte.result in
    c.bytes_of.ensures ∙ ap bytes c.frobenius_orbit.ensures ∙ map-tab (λ (e : Rijndael8b). e.0) 8 (λ k. element (frob 8 0x1b k x.0))
    ∙ ap (λ (v : ℕ). tab 8 (λ k. frob 8 0x1b k v)) c.from_byte.ensures
