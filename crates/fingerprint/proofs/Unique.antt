-- One answer only: any two answers that meet the call's contract, as the checker reads it, are equal.
use mathlib.Core.Path.{◌≡◌, sym, ◌∙◌}
use Rattle.fingerprint.proofs.fingerprint.Reads as fingerprint

pub fingerprint_unique : (κs : _) (a : _) (r r' : _) (s s' : _) → fingerprint.Post κs a r s → fingerprint.Post κs a r' s' → r ≡ r'
fingerprint_unique κs a r r' s s' p q = p ∙ sym q
