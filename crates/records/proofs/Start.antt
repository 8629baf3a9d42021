-- A tally starts at none: what its derived default answers.
use Rattle.std.proofs.Common.{◌≡◌}
use Rattle.records.specs.Tally.{none_of}
use Rattle.records.proofs.TallyDefault.default.Reads as tally-default

pub starts_at_none : (κs : _) (a : _) (r : _) (s : _) → tally-default.Post κs a r s → r ≡ none_of
starts_at_none κs a r s p = λ i. record { cases = p.0 i; agreed = p.1.0 i; group_cases = p.1.1.0 i; group_agreed = p.1.1.1 i }
