-- One answer only: for each public call two results that meet its contract, as the check reads it, are equal.
use mathlib.Core.Path.{◌≡◌, sym, ap, ◌∙◌}
use Prim.Native.Nat.{ℕ}
use Rattle.rijndael.specs.Element.{element}
use Rattle.tower.specs.declared.BinaryField8.{BinaryField8}
use Rattle.tower.proofs.BinaryField8.from_repr.Reads as from-repr
use Rattle.tower.proofs.BinaryField8.to_repr.Reads as to-repr
use Rattle.tower.proofs.BinaryField8Add.add.Reads as add
use Rattle.tower.proofs.BinaryField8Mul.mul.Reads as mul
use Rattle.tower.proofs.Rijndael8bFromBinaryField8.from.Reads as to-rijndael
use Rattle.tower.proofs.BinaryField8FromRijndael8b.from.Reads as from-rijndael
use Rattle.tower.proofs.tower_images.Reads as tower-images
use Rattle.tower.proofs.mul_alpha.Reads as mul-alpha
use Rattle.tower.proofs.generator.Reads as generator

-- a tower byte by its bits
abbrev tower_byte : ℕ → BinaryField8
tower_byte a = record { 0 = a }

pub binary_field8_from_repr_unique : (κs : _) (a : _) (r r' : _) (s s' : _) → from-repr.Post κs a r s → from-repr.Post κs a r' s' → r ≡ r'
binary_field8_from_repr_unique κs a r r' s s' p q = ap tower_byte (p ∙ sym q)

pub binary_field8_to_repr_unique : (κs : _) (a : _) (r r' : _) (s s' : _) → to-repr.Post κs a r s → to-repr.Post κs a r' s' → r ≡ r'
binary_field8_to_repr_unique κs a r r' s s' p q = p ∙ sym q

pub binary_field8_add_unique : (κs : _) (a : _) (r r' : _) (s s' : _) → add.Post κs a r s → add.Post κs a r' s' → r ≡ r'
binary_field8_add_unique κs a r r' s s' p q = ap tower_byte (p ∙ sym q)

pub binary_field8_mul_unique : (κs : _) (a : _) (r r' : _) (s s' : _) → mul.Post κs a r s → mul.Post κs a r' s' → r ≡ r'
binary_field8_mul_unique κs a r r' s s' p q = ap tower_byte (p ∙ sym q)

pub binary_field8_to_rijndael_unique : (κs : _) (a : _) (r r' : _) (s s' : _) → to-rijndael.Post κs a r s → to-rijndael.Post κs a r' s' → r ≡ r'
binary_field8_to_rijndael_unique κs a r r' s s' p q = ap element (p ∙ sym q)

pub binary_field8_from_rijndael_unique : (κs : _) (a : _) (r r' : _) (s s' : _) → from-rijndael.Post κs a r s → from-rijndael.Post κs a r' s' → r ≡ r'
binary_field8_from_rijndael_unique κs a r r' s s' p q = ap tower_byte (p ∙ sym q)

pub tower_images_unique : (κs : _) (a : _) (r r' : _) (s s' : _) → tower-images.Post κs a r s → tower-images.Post κs a r' s' → r ≡ r'
tower_images_unique κs a r r' s s' p q = p ∙ sym q

pub mul_alpha_unique : (κs : _) (a : _) (r r' : _) (s s' : _) → mul-alpha.Post κs a r s → mul-alpha.Post κs a r' s' → r ≡ r'
mul_alpha_unique κs a r r' s s' p q = ap element (p ∙ sym q)

pub generator_unique : (κs : _) (a : _) (r r' : _) (s s' : _) → generator.Post κs a r s → generator.Post κs a r' s' → r ≡ r'
generator_unique κs a r r' s s' p q = ap element (p ∙ sym q)
