-- One answer only: any two answers that meet a call's contract, as the checker reads it, are equal.
use Rattle.std.proofs.Common.{◌≡◌, sym, ◌∙◌}
use Rattle.hexadecimal.proofs.digit.Reads as digit
use Rattle.hexadecimal.proofs.parse_digit.Reads as parse-digit
use Rattle.hexadecimal.proofs.parse_hex.Reads as parse-hex
use Rattle.hexadecimal.proofs.text.Reads as text

pub digit_unique : (κs : _) (a : _) (r r' : _) (s s' : _) → digit.Post κs a r s → digit.Post κs a r' s' → r ≡ r'
digit_unique κs a r r' s s' p q = p ∙ sym q

pub parse_digit_unique : (κs : _) (a : _) (r r' : _) (s s' : _) → parse-digit.Post κs a r s → parse-digit.Post κs a r' s' → r ≡ r'
parse_digit_unique κs a r r' s s' p q = p ∙ sym q

pub parse_hex_unique : (κs : _) (a : _) (r r' : _) (s s' : _) → parse-hex.Post κs a r s → parse-hex.Post κs a r' s' → r ≡ r'
parse_hex_unique κs a r r' s s' p q = p ∙ sym q

pub text_unique : (κs : _) (a : _) (r r' : _) (s s' : _) → text.Post κs a r s → text.Post κs a r' s' → r ≡ r'
text_unique κs a r r' s s' p q = p ∙ sym q
