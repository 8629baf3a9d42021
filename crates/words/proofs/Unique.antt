-- One answer only: any two answers that meet a call's contract, as the checker reads it, are equal.
use Rattle.std.proofs.Common.{◌≡◌, sym, ◌∙◌}
use Rattle.words.proofs.Zero.{starts_at_zero}
use Rattle.words.proofs.LimbsDefault.default.Reads as limbs-default
use Rattle.words.proofs.LimbsBitXor.bitxor.Reads as bitxor
use Rattle.words.proofs.wrapping_mul_64.Reads as wrapping-mul-64
use Rattle.words.proofs.reverse_bits_8.Reads as reverse-bits-8
use Rattle.words.proofs.reverse_bits_64.Reads as reverse-bits-64
use Rattle.words.proofs.spread_bits_64.Reads as spread-bits-64
use Rattle.words.proofs.compact_even.Reads as compact-even

pub limbs_default_unique : (κs : _) (a : _) (r r' : _) (s s' : _) → limbs-default.Post κs a r s → limbs-default.Post κs a r' s' → r ≡ r'
limbs_default_unique κs a r r' s s' p q = starts_at_zero κs a r s p ∙ sym (starts_at_zero κs a r' s' q)

pub limbs_bitxor_unique : (κs : _) (a : _) (r r' : _) (s s' : _) → bitxor.Post κs a r s → bitxor.Post κs a r' s' → r ≡ r'
limbs_bitxor_unique κs a r r' s s' p q = p ∙ sym q

pub wrapping_mul_64_unique : (κs : _) (a : _) (r r' : _) (s s' : _) → wrapping-mul-64.Post κs a r s → wrapping-mul-64.Post κs a r' s' → r ≡ r'
wrapping_mul_64_unique κs a r r' s s' p q = p ∙ sym q

pub reverse_bits_8_unique : (κs : _) (a : _) (r r' : _) (s s' : _) → reverse-bits-8.Post κs a r s → reverse-bits-8.Post κs a r' s' → r ≡ r'
reverse_bits_8_unique κs a r r' s s' p q = p ∙ sym q

pub reverse_bits_64_unique : (κs : _) (a : _) (r r' : _) (s s' : _) → reverse-bits-64.Post κs a r s → reverse-bits-64.Post κs a r' s' → r ≡ r'
reverse_bits_64_unique κs a r r' s s' p q = p ∙ sym q

pub spread_bits_64_unique : (κs : _) (a : _) (r r' : _) (s s' : _) → spread-bits-64.Post κs a r s → spread-bits-64.Post κs a r' s' → r ≡ r'
spread_bits_64_unique κs a r r' s s' p q = p ∙ sym q

pub compact_even_unique : (κs : _) (a : _) (r r' : _) (s s' : _) → compact-even.Post κs a r s → compact-even.Post κs a r' s' → r ≡ r'
compact_even_unique κs a r r' s s' p q = p ∙ sym q
