-- The residues of 8 bits are a field. The columns are tools/cert.py's: a map that undoes a² + a up to the constant term.
use mathlib.Core.List.{List, [], ◌∷◌}
use Prim.Native.Nat.{ℕ}
use lib.Dec.{T}
use Rattle.fields.specs.Moduli.{tail8}
use Rattle.gf2.specs.Poly.{bin_rec, bin_go, cmul, spread}
use Rattle.gf2.specs.Residue.{red, rem, mul, sq, frob}
use Rattle.gf2.specs.Linear.{apply}
use Rattle.gf2.specs.Field.{Field}
use Rattle.gf2.proofs.Linear.{all}
use Rattle.gf2.proofs.Certificate.{field_test, undo, clear, field}

unfoldable columns : List ℕ
columns =
    0xbc ∷ 0x2a ∷ 0x28 ∷ 0x86 ∷ 0x2c ∷ 0x0 ∷ 0x8e ∷ 0xde ∷ []

test : T (field_test 8 tail8 columns)
unfolding field_test columns undo clear frob all apply sq mul rem red spread cmul bin_rec bin_go
test = tt

pub field8 : Field 8 tail8
field8 = field 8 tail8 columns test
