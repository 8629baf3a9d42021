-- The three fields.
use Rattle.fields.specs.Fields.{Fields}
use Rattle.fields.proofs.Field8.{field8}
use Rattle.fields.proofs.Field64.{field64}
use Rattle.fields.proofs.Field128.{field128}

pub fields : Fields
fields = record { bytes = field8; words = field64; limbs = field128 }
