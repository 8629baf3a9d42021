-- One answer only: any two answers that meet a call's contract, as the checker reads it, are equal.
use Rattle.std.proofs.Common.{◌≡◌, sym, ◌∙◌}
use Rattle.records.proofs.Start.{starts_at_none}
use Rattle.records.proofs.read.Reads as read
use Rattle.records.proofs.Line.agrees.Reads as line-agrees
use Rattle.records.proofs.agrees.Reads as agrees
use Rattle.records.proofs.U8TwoWords.two_words.Reads as byte-words
use Rattle.records.proofs.U64TwoWords.two_words.Reads as word-words
use Rattle.records.proofs.LimbsTwoWords.two_words.Reads as limbs-words
use Rattle.records.proofs.ShownFromRefusal.from.Reads as shown-from
use Rattle.records.proofs.Shown.value.Reads as shown-value
use Rattle.records.proofs.Shown.left.Reads as shown_left
use Rattle.records.proofs.Shown.unknown.Reads as shown-unknown
use Rattle.records.proofs.TallyDefault.default.Reads as tally-default
use Rattle.records.proofs.Tally.with.Reads as tally-with
use Rattle.records.proofs.Tally.closed.Reads as tally-closed

pub read_unique : (κs : _) (a : _) (r r' : _) (s s' : _) → read.Post κs a r s → read.Post κs a r' s' → r ≡ r'
read_unique κs a r r' s s' p q = p ∙ sym q

pub line_agrees_unique : (κs : _) (a : _) (r r' : _) (s s' : _) → line-agrees.Post κs a r s → line-agrees.Post κs a r' s' → r ≡ r'
line_agrees_unique κs a r r' s s' p q = p ∙ sym q

pub agrees_unique : (κs : _) (a : _) (r r' : _) (s s' : _) → agrees.Post κs a r s → agrees.Post κs a r' s' → r ≡ r'
agrees_unique κs a r r' s s' p q = p ∙ sym q

pub byte_two_words_unique : (κs : _) (a : _) (r r' : _) (s s' : _) → byte-words.Post κs a r s → byte-words.Post κs a r' s' → r ≡ r'
byte_two_words_unique κs a r r' s s' p q = p ∙ sym q

pub word_two_words_unique : (κs : _) (a : _) (r r' : _) (s s' : _) → word-words.Post κs a r s → word-words.Post κs a r' s' → r ≡ r'
word_two_words_unique κs a r r' s s' p q = p ∙ sym q

pub limbs_two_words_unique : (κs : _) (a : _) (r r' : _) (s s' : _) → limbs-words.Post κs a r s → limbs-words.Post κs a r' s' → r ≡ r'
limbs_two_words_unique κs a r r' s s' p q = p ∙ sym q

pub shown_from_unique : (κs : _) (a : _) (r r' : _) (s s' : _) → shown-from.Post κs a r s → shown-from.Post κs a r' s' → r ≡ r'
shown_from_unique κs a r r' s s' p q = p ∙ sym q

pub shown_value_unique : (T : _) (bounds : _) (met : _) (laws : _) (κs : _) (a : _) (r r' : _) (s s' : _)
    → shown-value.Post T bounds met laws κs a r s → shown-value.Post T bounds met laws κs a r' s' → r ≡ r'
shown_value_unique T bounds met laws κs a r r' s s' p q = p ∙ sym q

pub shown_left_unique : (κs : _) (a : _) (r r' : _) (s s' : _) → shown_left.Post κs a r s → shown_left.Post κs a r' s' → r ≡ r'
shown_left_unique κs a r r' s s' p q = p ∙ sym q

pub shown_unknown_unique : (κs : _) (a : _) (r r' : _) (s s' : _) → shown-unknown.Post κs a r s → shown-unknown.Post κs a r' s' → r ≡ r'
shown_unknown_unique κs a r r' s s' p q = p ∙ sym q

pub tally_none_unique : (κs : _) (a : _) (r r' : _) (s s' : _) → tally-default.Post κs a r s → tally-default.Post κs a r' s' → r ≡ r'
tally_none_unique κs a r r' s s' p q = starts_at_none κs a r s p ∙ sym (starts_at_none κs a r' s' q)

pub tally_with_unique : (κs : _) (a : _) (r r' : _) (s s' : _) → tally-with.Post κs a r s → tally-with.Post κs a r' s' → r ≡ r'
tally_with_unique κs a r r' s s' p q = p ∙ sym q

pub tally_closed_unique : (κs : _) (a : _) (r r' : _) (s s' : _) → tally-closed.Post κs a r s → tally-closed.Post κs a r' s' → r ≡ r'
tally_closed_unique κs a r r' s s' p q = p ∙ sym q
