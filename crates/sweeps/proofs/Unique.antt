-- One answer only: any two answers that meet a call's contract, as the checker reads it, are equal, and so are the bytes
-- that they leave in lent memory.
use mathlib.Core.Path.{◌≡◌, sym, ◌∙◌}
use Rattle.sweeps.proofs.mul_slice.Reads as mul-slice
use Rattle.sweeps.proofs.invert_slice.Reads as invert-slice

pub mul_slice_unique : (κs : _) (a : _) (r r' : _) (s s' : _) → mul-slice.Post κs a r s → mul-slice.Post κs a r' s' → (r ≡ r') × (s.0.now ≡ s'.0.now)
mul_slice_unique κs a r r' s s' p q = (p.0 ∙ sym q.0, p.1 ∙ sym q.1)

pub invert_slice_unique : (κs : _) (a : _) (r r' : _) (s s' : _) → invert-slice.Post κs a r s → invert-slice.Post κs a r' s' → s.0.now ≡ s'.0.now
invert_slice_unique κs a r r' s s' p q = p ∙ sym q
