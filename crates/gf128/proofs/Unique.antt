-- One answer only: any two answers that meet a call's contract, as the checker reads it, are equal.
use mathlib.Core.Path.{◌≡◌, sym, ◌∙◌}
use Rattle.gf128.proofs.add_128.Reads as add-128
use Rattle.gf128.proofs.poly_mul_128.Reads as poly-mul-128
use Rattle.gf128.proofs.poly_square_128.Reads as poly-square-128
use Rattle.gf128.proofs.poly_dot_128.Reads as poly-dot-128

pub add_128_unique : (κs : _) (a : _) (r r' : _) (s s' : _) → add-128.Post κs a r s → add-128.Post κs a r' s' → r ≡ r'
add_128_unique κs a r r' s s' p q = p ∙ sym q

pub poly_mul_128_unique : (κs : _) (a : _) (r r' : _) (s s' : _) → poly-mul-128.Post κs a r s → poly-mul-128.Post κs a r' s' → r ≡ r'
poly_mul_128_unique κs a r r' s s' p q = p ∙ sym q

pub poly_square_128_unique : (κs : _) (a : _) (r r' : _) (s s' : _)
    → poly-square-128.Post κs a r s → poly-square-128.Post κs a r' s' → r ≡ r'
poly_square_128_unique κs a r r' s s' p q = p ∙ sym q

pub poly_dot_128_unique : (κs : _) (a : _) (r r' : _) (s s' : _) → poly-dot-128.Post κs a r s → poly-dot-128.Post κs a r' s' → r ≡ r'
poly_dot_128_unique κs a r r' s s' p q = p ∙ sym q
