-- The residues modulo each of the three moduli are a field: of 256, of 2^64 and of 2^128 elements.
use Rattle.gf2.specs.Field.{Field}
use Rattle.fields.specs.Moduli.{tail8, tail64, tail128}

pub record Fields : Type 0 where
  pub bytes : Field 8 tail8
  pub words : Field 64 tail64
  pub limbs : Field 128 tail128
