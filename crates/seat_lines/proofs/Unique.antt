-- One answer only: any two answers that meet a call's contract, as the checker reads it, are equal.
use Rattle.std.proofs.Common.{◌≡◌, sym, ◌∙◌}
use Rattle.seat_lines.proofs.row_line.Reads as row-line
use Rattle.seat_lines.proofs.fingerprint_rows.Reads as fingerprint-rows

pub row_line_unique : (κs : _) (a : _) (r r' : _) (s s' : _) → row-line.Post κs a r s → row-line.Post κs a r' s' → r ≡ r'
row_line_unique κs a r r' s s' p q = p ∙ sym q

pub fingerprint_rows_unique : (κs : _) (a : _) (r r' : _) (s s' : _) → fingerprint-rows.Post κs a r s → fingerprint-rows.Post κs a r' s' → r ≡ r'
fingerprint_rows_unique κs a r r' s s' p q = p ∙ sym q
