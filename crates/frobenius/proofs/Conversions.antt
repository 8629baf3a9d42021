-- The six conversions of the code, two of `matrix` and four of this crate, tied to the theorem of the three spellings.
-- What meets a conversion's contract, as the checker reads it, is the one spelling of the same byte map, so that each of
-- the 256 bytes goes where it went (`..-converts`); and the conversion back, called on it, answers what we started with.
-- `Valid` holds of every word of 64 bits and every array of eight bytes: the reading of a contract leaves it to be said.
use mathlib.Core.Path.{◌≡◌, ap}
use mathlib.Core.List.{List}
use Prim.Native.Nat.{ℕ}
use Rattle.matrix.specs.declared.ByteMatrix.{ByteMatrix}
use Rattle.spellings.specs.Kinds.{Value, Valid}
use Rattle.spellings.specs.Kinds.Kind.{Quadword, Images, Coefficients}
use Rattle.spellings.specs.Theorem.{Converts}
use Rattle.spellings.proofs.Bytes.{converts, there_and_back}
use Rattle.frobenius.specs.Elements.{bytes}
use Rattle.frobenius.specs.declared.LinearizedPoly8b.{LinearizedPoly8b}
use Rattle.frobenius.proofs.Elements.{matrix, spelled, poly_same}
use Rattle.matrix.proofs.ByteMatrix.images.Reads as images
use Rattle.matrix.proofs.ByteMatrix.from_images.Reads as matrix-from-images
use Rattle.frobenius.proofs.LinearizedPoly8b.to_images.Reads as to-images
use Rattle.frobenius.proofs.LinearizedPoly8b.from_images.Reads as from-images
use Rattle.frobenius.proofs.LinearizedPoly8b.to_matrix.Reads as to-matrix
use Rattle.frobenius.proofs.LinearizedPoly8b.from_matrix.Reads as from-matrix

-- what a matrix and a polynomial spell with
abbrev pub quadword : ByteMatrix → Value Quadword
quadword m = m.0

abbrev pub coefficients : LinearizedPoly8b → Value Coefficients
coefficients p = bytes p.0

-- ---- each conversion is one in the theorem's sense

pub images_converts : (κs : _) (s : _) (m : ByteMatrix) (l : List ℕ) → images.Post κs (m, tt) l s → Valid Quadword (quadword m)
    → Converts Quadword Images (quadword m) l
images_converts κs s m l e h = converts Quadword Images (quadword m) h e

pub matrix_from_images_converts : (κs : _) (s : _) (l : List ℕ) (m : ByteMatrix) → matrix-from-images.Post κs (l, tt) m s → Valid Images l
    → Converts Images Quadword l (quadword m)
matrix_from_images_converts κs s l m e h = converts Images Quadword l h e

pub to_images_converts : (κs : _) (s : _) (p : LinearizedPoly8b) (l : List ℕ) → to-images.Post κs (p, tt) l s → Valid Coefficients (coefficients p)
    → Converts Coefficients Images (coefficients p) l
to_images_converts κs s p l e h = converts Coefficients Images (coefficients p) h e

pub from_images_converts : (κs : _) (s : _) (l : List ℕ) (p : LinearizedPoly8b) → from-images.Post κs (l, tt) p s → Valid Images l
    → Converts Images Coefficients l (coefficients p)
from_images_converts κs s l p e h = converts Images Coefficients l h (spelled p e)

pub to_matrix_converts : (κs : _) (s : _) (p : LinearizedPoly8b) (m : ByteMatrix) → to-matrix.Post κs (p, tt) m s → Valid Coefficients (coefficients p)
    → Converts Coefficients Quadword (coefficients p) (quadword m)
to_matrix_converts κs s p m e h = converts Coefficients Quadword (coefficients p) h e

pub from_matrix_converts : (κs : _) (s : _) (m : ByteMatrix) (p : LinearizedPoly8b) → from-matrix.Post κs (m, tt) p s → Valid Quadword (quadword m)
    → Converts Quadword Coefficients (quadword m) (coefficients p)
from_matrix_converts κs s m p e h = converts Quadword Coefficients (quadword m) h (spelled p e)

-- ---- there and back, for each two kinds and either way round

pub images_from_images : (κs κs' : _) (s s' : _) (m : ByteMatrix) (l : List ℕ) (m' : ByteMatrix) → images.Post κs (m, tt) l s
    → matrix-from-images.Post κs' (l, tt) m' s' → Valid Quadword (quadword m) → m' ≡ m
images_from_images κs κs' s s' m l m' e e' h = ap matrix (there_and_back Quadword Images (quadword m) h e e')

pub from_images-images : (κs κs' : _) (s s' : _) (l : List ℕ) (m : ByteMatrix) (l' : List ℕ) → matrix-from-images.Post κs (l, tt) m s
    → images.Post κs' (m, tt) l' s' → Valid Images l → l' ≡ l
from_images-images κs κs' s s' l m l' e e' h = there_and_back Images Quadword l h e e'

pub poly_to_images_from_images : (κs κs' : _) (s s' : _) (p : LinearizedPoly8b) (l : List ℕ) (p' : LinearizedPoly8b) → to-images.Post κs (p, tt) l s
    → from-images.Post κs' (l, tt) p' s' → Valid Coefficients (coefficients p) → p' ≡ p
poly_to_images_from_images κs κs' s s' p l p' e e' h = poly_same (there_and_back Coefficients Images (coefficients p) h e (spelled p' e'))

pub poly_from_images_to_images : (κs κs' : _) (s s' : _) (l : List ℕ) (p : LinearizedPoly8b) (l' : List ℕ) → from-images.Post κs (l, tt) p s
    → to-images.Post κs' (p, tt) l' s' → Valid Images l → l' ≡ l
poly_from_images_to_images κs κs' s s' l p l' e e' h = there_and_back Images Coefficients l h (spelled p e) e'

pub to_matrix_from_matrix : (κs κs' : _) (s s' : _) (p : LinearizedPoly8b) (m : ByteMatrix) (p' : LinearizedPoly8b) → to-matrix.Post κs (p, tt) m s
    → from-matrix.Post κs' (m, tt) p' s' → Valid Coefficients (coefficients p) → p' ≡ p
to_matrix_from_matrix κs κs' s s' p m p' e e' h = poly_same (there_and_back Coefficients Quadword (coefficients p) h e (spelled p' e'))

pub from_matrix_to_matrix : (κs κs' : _) (s s' : _) (m : ByteMatrix) (p : LinearizedPoly8b) (m' : ByteMatrix) → from-matrix.Post κs (m, tt) p s
    → to-matrix.Post κs' (p, tt) m' s' → Valid Quadword (quadword m) → m' ≡ m
from_matrix_to_matrix κs κs' s s' m p m' e e' h = ap matrix (there_and_back Quadword Coefficients (quadword m) h (spelled p e) e')
