-- One answer only: any two answers that meet a call's contract, as the checker reads it, are equal.
use mathlib.Core.Path.{◌≡◌, sym, ap, ◌∙◌}
use Rattle.rijndael.specs.Element.{element}
use Rattle.frobenius.proofs.Elements.{matrix, poly}
use Rattle.frobenius.proofs.frobenius_map.Reads as frobenius-map
use Rattle.frobenius.proofs.frobenius_orbit.Reads as frobenius-orbit
use Rattle.frobenius.proofs.LinearizedPoly8b.new.Reads as new
use Rattle.frobenius.proofs.LinearizedPoly8b.coefficients.Reads as coefficients
use Rattle.frobenius.proofs.LinearizedPoly8b.eval.Reads as eval
use Rattle.frobenius.proofs.LinearizedPoly8b.to_images.Reads as to-images
use Rattle.frobenius.proofs.LinearizedPoly8b.to_matrix.Reads as to-matrix
use Rattle.frobenius.proofs.LinearizedPoly8b.from_images.Reads as from-images
use Rattle.frobenius.proofs.LinearizedPoly8b.from_matrix.Reads as from-matrix

pub frobenius_map_unique : (κs : _) (a : _) (r r' : _) (s s' : _) → frobenius-map.Post κs a r s → frobenius-map.Post κs a r' s' → r ≡ r'
frobenius_map_unique κs a r r' s s' p q = ap matrix (p ∙ sym q)

pub frobenius_orbit_unique : (κs : _) (a : _) (r r' : _) (s s' : _) → frobenius-orbit.Post κs a r s → frobenius-orbit.Post κs a r' s' → r ≡ r'
frobenius_orbit_unique κs a r r' s s' p q = p ∙ sym q

pub linearized_poly8b_new_unique : (κs : _) (a : _) (r r' : _) (s s' : _) → new.Post κs a r s → new.Post κs a r' s' → r ≡ r'
linearized_poly8b_new_unique κs a r r' s s' p q = ap poly (p ∙ sym q)

pub linearized_poly8b_coefficients_unique : (κs : _) (a : _) (r r' : _) (s s' : _) → coefficients.Post κs a r s → coefficients.Post κs a r' s'
    → r ≡ r'
linearized_poly8b_coefficients_unique κs a r r' s s' p q = p ∙ sym q

pub linearized_poly8b_eval_unique : (κs : _) (a : _) (r r' : _) (s s' : _) → eval.Post κs a r s → eval.Post κs a r' s' → r ≡ r'
linearized_poly8b_eval_unique κs a r r' s s' p q = ap element (p ∙ sym q)

pub linearized_poly8b_to_images_unique : (κs : _) (a : _) (r r' : _) (s s' : _) → to-images.Post κs a r s → to-images.Post κs a r' s' → r ≡ r'
linearized_poly8b_to_images_unique κs a r r' s s' p q = p ∙ sym q

pub linearized_poly8b_to_matrix_unique : (κs : _) (a : _) (r r' : _) (s s' : _) → to-matrix.Post κs a r s → to-matrix.Post κs a r' s' → r ≡ r'
linearized_poly8b_to_matrix_unique κs a r r' s s' p q = ap matrix (p ∙ sym q)

pub linearized_poly8b_from_images_unique : (κs : _) (a : _) (r r' : _) (s s' : _) → from-images.Post κs a r s → from-images.Post κs a r' s'
    → r ≡ r'
linearized_poly8b_from_images_unique κs a r r' s s' p q = ap poly (p ∙ sym q)

pub linearized_poly8b_from_matrix_unique : (κs : _) (a : _) (r r' : _) (s s' : _) → from-matrix.Post κs a r s → from-matrix.Post κs a r' s'
    → r ≡ r'
linearized_poly8b_from_matrix_unique κs a r r' s s' p q = ap poly (p ∙ sym q)
