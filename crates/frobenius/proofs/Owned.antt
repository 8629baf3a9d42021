-- What owning a polynomial tells of it, as the checker has it: its coefficients are eight numbers of eight bits.
use mathlib.Core.Path.{◌∙◌}
use mathlib.Core.List.{List, [], ◌∷◌}
use Prim.Native.Nat.{ℕ, zero, suc, ◌^◌, ◌<◌}
use lib.Dec.{lit<}
use lib.ListN.{get_or, length-map}
use mir.Val.{Val}
use denote.Laws.{Is}
use denote.Array.{each}
use denote.Shadow.{shadow}
use Rattle.rijndael.specs.declared.Rijndael8b.{Rijndael8b}
use Rattle.rijndael.specs.contracts.Rijndael8b.{the_row}
use Rattle.rijndael.specs.Element.{element}
use Rattle.spellings.specs.Lists.{Residues}
use Rattle.frobenius.specs.declared.LinearizedPoly8b.{LinearizedPoly8b}
use Rattle.frobenius.specs.contracts.LinearizedPoly8b as poly
use Rattle.frobenius.specs.Elements.{bytes}
use Rattle.frobenius.proofs.Elements.{bytes_at}

each-byte : (l : List Rijndael8b) (us : List Val) → shadow (each Rijndael8b the_row.own_val l us) → (i : ℕ) → (get_or l i (element 0)).0 < 2 ^ 8
each-byte [] [] p i = lit< tt
each-byte [] (u ∷ us) p i = absurd p
each-byte (x ∷ l) [] p i = absurd p
each-byte (x ∷ l) (u ∷ us) p zero = p.0.1.1.0.1
each-byte (x ∷ l) (u ∷ us) p (suc i) = each-byte l us p.1 i

pub eight_coefficients : (p : LinearizedPoly8b) (vs : List Val) → Is poly.the_row p vs → Residues 8 (bytes p.0)
eight_coefficients p vs o =
    record { size = length-map p.0 _ ∙ o.1.1.0.1.0.1; below = λ i. rw (bytes_at p.0 i) (each-byte p.0 _ o.1.1.0.1.1 i) }
