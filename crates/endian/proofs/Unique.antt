-- One answer only: any two answers that meet a call's contract, as the checker reads it, are equal, and so are the lent
-- bytes afterwards.
use Rattle.std.proofs.Common.{◌≡◌, sym, ◌∙◌}
use Rattle.endian.proofs.read_64.Reads as read-64
use Rattle.endian.proofs.write_64.Reads as write-64
use Rattle.endian.proofs.read_128.Reads as read-128
use Rattle.endian.proofs.write_128.Reads as write-128

pub read_64_unique : (κs : _) (a : _) (r r' : _) (s s' : _) → read-64.Post κs a r s → read-64.Post κs a r' s' → r ≡ r'
read_64_unique κs a r r' s s' p q = p ∙ sym q

pub write_64_unique : (κs : _) (a : _) (r r' : _) (s s' : _) → write-64.Post κs a r s → write-64.Post κs a r' s'
    → (r ≡ r') × (s.0.now ≡ s'.0.now)
write_64_unique κs a r r' s s' p q = (p.0 ∙ sym q.0, p.1 ∙ sym q.1)

pub read_128_unique : (κs : _) (a : _) (r r' : _) (s s' : _) → read-128.Post κs a r s → read-128.Post κs a r' s' → r ≡ r'
read_128_unique κs a r r' s s' p q = p ∙ sym q

pub write_128_unique : (κs : _) (a : _) (r r' : _) (s s' : _) → write-128.Post κs a r s → write-128.Post κs a r' s'
    → (r ≡ r') × (s.0.now ≡ s'.0.now)
write_128_unique κs a r r' s s' p q = (p.0 ∙ sym q.0, p.1 ∙ sym q.1)
