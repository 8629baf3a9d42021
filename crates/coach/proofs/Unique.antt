-- One answer only: any two answers that meet a call's contract, as the checker reads it, are equal.
use mathlib.Core.Path.{◌≡◌, sym, ◌∙◌}
use Rattle.coach.proofs.pack_rows.Reads as pack-rows
use Rattle.coach.proofs.draw.Reads as draw

pub pack_rows_unique : (κs : _) (a : _) (r r' : _) (s s' : _)
    → pack-rows.Post κs a r s → pack-rows.Post κs a r' s' → (r ≡ r') × (s.1.0.now ≡ s'.1.0.now)
pack_rows_unique κs a r r' s s' p q = (p.0 ∙ sym q.0, p.1 ∙ sym q.1)

pub draw_unique : (κs : _) (a : _) (r r' : _) (s s' : _) → draw.Post κs a r s → draw.Post κs a r' s' → r ≡ r'
draw_unique κs a r r' s s' p q = p ∙ sym q
