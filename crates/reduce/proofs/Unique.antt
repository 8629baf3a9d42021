-- One answer only: any two answers that meet a call's contract, as the checker reads it, are equal.
use mathlib.Core.Path.{◌≡◌, sym, ◌∙◌}
use Rattle.reduce.proofs.reduce_64.Reads as reduce-64
use Rattle.reduce.proofs.reduce_128.Reads as reduce-128

pub reduce_64_unique : (κs : _) (a : _) (r r' : _) (s s' : _) → reduce-64.Post κs a r s → reduce-64.Post κs a r' s' → r ≡ r'
reduce_64_unique κs a r r' s s' p q = p ∙ sym q

pub reduce_128_unique : (κs : _) (a : _) (r r' : _) (s s' : _) → reduce-128.Post κs a r s → reduce-128.Post κs a r' s' → r ≡ r'
reduce_128_unique κs a r r' s s' p q = p ∙ sym q
