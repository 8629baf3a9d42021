-- One answer only: any two answers that meet a call's contract, as the checker reads it, are equal.
use mathlib.Core.Path.{◌≡◌, sym, ◌∙◌}
use Rattle.gf64.proofs.add_64.Reads as add-64
use Rattle.gf64.proofs.poly_mul_64.Reads as poly-mul-64
use Rattle.gf64.proofs.poly_square_64.Reads as poly-square-64
use Rattle.gf64.proofs.poly_sqrt_64.Reads as poly-sqrt-64
use Rattle.gf64.proofs.poly_inverse_64.Reads as poly-inverse-64
use Rattle.gf64.proofs.try_inverse_64.Reads as try-inverse-64
use Rattle.gf64.proofs.div_64.Reads as div-64
use Rattle.gf64.proofs.poly_dot_64.Reads as poly-dot-64

pub add_64_unique : (κs : _) (a : _) (r r' : _) (s s' : _) → add-64.Post κs a r s → add-64.Post κs a r' s' → r ≡ r'
add_64_unique κs a r r' s s' p q = p ∙ sym q

pub poly_mul_64_unique : (κs : _) (a : _) (r r' : _) (s s' : _) → poly-mul-64.Post κs a r s → poly-mul-64.Post κs a r' s' → r ≡ r'
poly_mul_64_unique κs a r r' s s' p q = p ∙ sym q

pub poly_square_64_unique : (κs : _) (a : _) (r r' : _) (s s' : _) → poly-square-64.Post κs a r s → poly-square-64.Post κs a r' s' → r ≡ r'
poly_square_64_unique κs a r r' s s' p q = p ∙ sym q

pub poly_sqrt_64_unique : (κs : _) (a : _) (r r' : _) (s s' : _) → poly-sqrt-64.Post κs a r s → poly-sqrt-64.Post κs a r' s' → r ≡ r'
poly_sqrt_64_unique κs a r r' s s' p q = p ∙ sym q

pub poly_inverse_64_unique : (κs : _) (a : _) (r r' : _) (s s' : _) → poly-inverse-64.Post κs a r s → poly-inverse-64.Post κs a r' s' → r ≡ r'
poly_inverse_64_unique κs a r r' s s' p q = p ∙ sym q

pub try_inverse_64_unique : (κs : _) (a : _) (r r' : _) (s s' : _) → try-inverse-64.Post κs a r s → try-inverse-64.Post κs a r' s' → r ≡ r'
try_inverse_64_unique κs a r r' s s' p q = p ∙ sym q

pub div_64_unique : (κs : _) (a : _) (r r' : _) (s s' : _) → div-64.Post κs a r s → div-64.Post κs a r' s' → r ≡ r'
div_64_unique κs a r r' s s' p q = p ∙ sym q

pub poly_dot_64_unique : (κs : _) (a : _) (r r' : _) (s s' : _) → poly-dot-64.Post κs a r s → poly-dot-64.Post κs a r' s' → r ≡ r'
poly_dot_64_unique κs a r r' s s' p q = p ∙ sym q
