-- Elements and bytes undo one another; a value of a type with one field is made of that field.
use mathlib.Core.Path.{◌≡◌, refl, sym, ap, ◌∙◌}
use mathlib.Core.List.{List, [], ◌∷◌}
use Prim.Native.Nat.{ℕ}
use lib.ListN.{get_or, get_or-map}
use Rattle.matrix.specs.declared.ByteMatrix.{ByteMatrix}
use Rattle.rijndael.specs.declared.Rijndael8b.{Rijndael8b}
use Rattle.frobenius.specs.declared.LinearizedPoly8b.{LinearizedPoly8b}
use Rattle.rijndael.specs.Element.{element}
use Rattle.frobenius.specs.Elements.{bytes, elements}

pub bytes-elements : (l : List ℕ) → bytes (elements l) ≡ l
bytes-elements [] = refl
bytes-elements (x ∷ l) = ap (λ (m : List ℕ). x ∷ m) (bytes-elements l)

pub elements-bytes : (l : List Rijndael8b) → elements (bytes l) ≡ l
elements-bytes [] = refl
elements-bytes (x ∷ l) = ap (λ (m : List Rijndael8b). x ∷ m) (elements-bytes l)

-- entry i
pub bytes_at : (l : List Rijndael8b) (i : ℕ) → get_or (bytes l) i 0 ≡ (get_or l i (element 0)).0
bytes_at l i = get_or-map (λ (e : Rijndael8b). e.0) l i (element 0)

-- a matrix of a quadword, and a polynomial of coefficients
abbrev pub matrix : ℕ → ByteMatrix
matrix q = record { 0 = q }

abbrev pub poly : List Rijndael8b → LinearizedPoly8b
poly c = record { 0 = c }

-- a polynomial with given coefficients, and two with the same ones
pub spelled : (p : LinearizedPoly8b) {l : List ℕ} → p.0 ≡ elements l → bytes p.0 ≡ l
spelled p {l} e = ap bytes e ∙ bytes-elements l

pub poly_same : {p q : LinearizedPoly8b} → bytes p.0 ≡ bytes q.0 → p ≡ q
poly_same {p} {q} e = ap poly (sym (elements-bytes p.0) ∙ ap elements e ∙ elements-bytes q.0)
