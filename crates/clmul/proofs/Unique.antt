-- One answer only: any two answers that meet a call's contract, as the checker reads it, are equal.
use mathlib.Core.Path.{◌≡◌, sym, ◌∙◌}
use Rattle.clmul.proofs.bmul64.Reads as bmul64
use Rattle.clmul.proofs.bmul64_high.Reads as bmul64-high
use Rattle.clmul.proofs.clmul_64x64.Reads as clmul-64x64

pub bmul64_unique : (κs : _) (a : _) (r r' : _) (s s' : _) → bmul64.Post κs a r s → bmul64.Post κs a r' s' → r ≡ r'
bmul64_unique κs a r r' s s' p q = p ∙ sym q

pub bmul64_high_unique : (κs : _) (a : _) (r r' : _) (s s' : _) → bmul64-high.Post κs a r s → bmul64-high.Post κs a r' s' → r ≡ r'
bmul64_high_unique κs a r r' s s' p q = p ∙ sym q

pub clmul_64x64_unique : (κs : _) (a : _) (r r' : _) (s s' : _) → clmul-64x64.Post κs a r s → clmul-64x64.Post κs a r' s' → r ≡ r'
clmul_64x64_unique κs a r r' s s' p q = p ∙ sym q
