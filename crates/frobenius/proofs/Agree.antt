-- Two ways to one answer, said of the contracts as the checker reads them: a polynomial evaluated or its matrix applied; an
-- element squared k times, or the k-th Frobenius map applied to it, or entry k of its orbit.
use mathlib.Core.Path.{◌≡◌, sym, ap, ◌∙◌}
use mathlib.Core.List.{List}
use Prim.Native.Nat.{ℕ, ◌^◌, ◌<◌}
use lib.ListN.{get_or}
use Rattle.matrix.specs.declared.ByteMatrix.{ByteMatrix}
use Rattle.rijndael.specs.declared.Rijndael8b.{Rijndael8b}
use Rattle.gf2.specs.Residue.{frob}
use Rattle.spellings.specs.Kinds.{Valid}
use Rattle.spellings.specs.Kinds.Kind.{Coefficients}
use Rattle.rijndael.specs.Element.{element}
use Rattle.frobenius.specs.declared.LinearizedPoly8b.{LinearizedPoly8b}
use Rattle.gf2.proofs.Table.{get_or-tab}
use Rattle.frobenius.proofs.Frobenius.{frobenius-image}
use Rattle.frobenius.proofs.Conversions.{coefficients, to_matrix_converts}
use Rattle.matrix.proofs.ByteMatrix.apply.Reads as apply
use Rattle.rijndael.proofs.Rijndael8b.exp_power_of_2.Reads as exp-power-of-2
use Rattle.frobenius.proofs.frobenius_map.Reads as frobenius-map
use Rattle.frobenius.proofs.frobenius_orbit.Reads as frobenius-orbit
use Rattle.frobenius.proofs.LinearizedPoly8b.eval.Reads as eval
use Rattle.frobenius.proofs.LinearizedPoly8b.to_matrix.Reads as to-matrix

pub to_matrix-apply : (κs κs' κs'' : _) (s s' s'' : _) (p : LinearizedPoly8b) (m : ByteMatrix) (x y : Rijndael8b) (b : ℕ) → to-matrix.Post κs (p, tt) m s
    → apply.Post κs' (m, (x.0, tt)) b s' → eval.Post κs'' (p, (x, tt)) y s'' → Valid Coefficients (coefficients p) → x.0 < 2 ^ 8 → b ≡ y.0
to_matrix-apply κs κs' κs'' s s' s'' p m x y b e f g h hx = f ∙ (to_matrix_converts κs s p m e h).one.same x.0 hx ∙ sym g

pub frobenius-map-apply : (κs κs' κs'' : _) (s s' s'' : _) (k : ℕ) (m : ByteMatrix) (x y : Rijndael8b) (b : ℕ) → frobenius-map.Post κs (k, tt) m s
    → apply.Post κs' (m, (x.0, tt)) b s' → exp-power-of-2.Post κs'' (x, (k, tt)) y s'' → x.0 < 2 ^ 8 → b ≡ y.0
frobenius-map-apply κs κs' κs'' s s' s'' k m x y b e f g hx = frobenius-image k x.0 hx e f ∙ sym g

pub frobenius_orbit_entry : (κs κs' : _) (s s' : _) (k : ℕ) (x y : Rijndael8b) (l : List Rijndael8b) → frobenius-orbit.Post κs (x, tt) l s
    → exp-power-of-2.Post κs' (x, (k, tt)) y s' → k < 8 → get_or l k (element 0) ≡ y
frobenius_orbit_entry κs κs' s s' k x y l e g hk =
    ap (λ (l : List Rijndael8b). get_or l k (element 0)) e ∙ get_or-tab 8 (λ k. element (frob 8 0x1b k x.0)) (element 0) k hk ∙ sym (ap element g)
