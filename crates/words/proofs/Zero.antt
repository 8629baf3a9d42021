-- Limbs start at zero: what their derived default answers.
use Rattle.std.proofs.Common.{◌≡◌}
use Rattle.words.specs.Limbs.{limbs}
use Rattle.words.proofs.LimbsDefault.default.Reads as limbs-default

pub starts_at_zero : (κs : _) (a : _) (r : _) (s : _) → limbs-default.Post κs a r s → r ≡ limbs 0
starts_at_zero κs a r s p = λ i. record { low = p.0 i; high = p.1 i }
