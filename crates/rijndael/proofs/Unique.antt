-- One answer only: any two answers that meet a call's contract, as the checker reads it, are equal; so are the bytes that
-- they leave in lent memory.
use Rattle.std.proofs.Common.{◌≡◌, ℕ, sym, ap, ◌∙◌}
use Rattle.matrix.specs.declared.ByteMatrix.{ByteMatrix}
use Rattle.rijndael.specs.Element.{element}
use Rattle.rijndael.proofs.bytes.mul_bytes.Reads as mul-bytes
use Rattle.rijndael.proofs.bytes.invert_byte.Reads as invert-byte
use Rattle.rijndael.proofs.Rijndael8b.from_byte.Reads as from_byte
use Rattle.rijndael.proofs.Rijndael8b.to_byte.Reads as to-byte
use Rattle.rijndael.proofs.Rijndael8bAdd.add.Reads as add
use Rattle.rijndael.proofs.Rijndael8bSub.sub.Reads as sub
use Rattle.rijndael.proofs.Rijndael8bMul.mul.Reads as mul
use Rattle.rijndael.proofs.Rijndael8b.square.Reads as square
use Rattle.rijndael.proofs.Rijndael8b.exp_power_of_2.Reads as exp-power-of-2
use Rattle.rijndael.proofs.Rijndael8b.sqrt.Reads as sqrt
use Rattle.rijndael.proofs.Rijndael8b.invert_or_zero.Reads as invert-or-zero
use Rattle.rijndael.proofs.Rijndael8b.try_inverse.Reads as try-inverse
use Rattle.rijndael.proofs.Rijndael8b.div.Reads as div
use Rattle.rijndael.proofs.Rijndael8b.interpolation_node.Reads as interpolation-node
use Rattle.rijndael.proofs.Rijndael8b.read.Reads as read
use Rattle.rijndael.proofs.Rijndael8b.write.Reads as write
use Rattle.rijndael.proofs.Rijndael8b.scaling_matrix.Reads as scaling-matrix

pub mul_bytes_unique : (κs : _) (a : _) (r r' : _) (s s' : _) → mul-bytes.Post κs a r s → mul-bytes.Post κs a r' s' → r ≡ r'
mul_bytes_unique κs a r r' s s' p q = p ∙ sym q

pub invert_byte_unique : (κs : _) (a : _) (r r' : _) (s s' : _) → invert-byte.Post κs a r s → invert-byte.Post κs a r' s' → r ≡ r'
invert_byte_unique κs a r r' s s' p q = p ∙ sym q

pub rijndael8b_from_byte_unique : (κs : _) (a : _) (r r' : _) (s s' : _) → from_byte.Post κs a r s → from_byte.Post κs a r' s' → r ≡ r'
rijndael8b_from_byte_unique κs a r r' s s' p q = ap element (p ∙ sym q)

pub rijndael8b_to_byte_unique : (κs : _) (a : _) (r r' : _) (s s' : _) → to-byte.Post κs a r s → to-byte.Post κs a r' s' → r ≡ r'
rijndael8b_to_byte_unique κs a r r' s s' p q = p ∙ sym q

pub rijndael8b_add_unique : (κs : _) (a : _) (r r' : _) (s s' : _) → add.Post κs a r s → add.Post κs a r' s' → r ≡ r'
rijndael8b_add_unique κs a r r' s s' p q = ap element (p ∙ sym q)

pub rijndael8b_sub_unique : (κs : _) (a : _) (r r' : _) (s s' : _) → sub.Post κs a r s → sub.Post κs a r' s' → r ≡ r'
rijndael8b_sub_unique κs a r r' s s' p q = ap element (p ∙ sym q)

pub rijndael8b_mul_unique : (κs : _) (a : _) (r r' : _) (s s' : _) → mul.Post κs a r s → mul.Post κs a r' s' → r ≡ r'
rijndael8b_mul_unique κs a r r' s s' p q = ap element (p ∙ sym q)

pub rijndael8b_square_unique : (κs : _) (a : _) (r r' : _) (s s' : _) → square.Post κs a r s → square.Post κs a r' s' → r ≡ r'
rijndael8b_square_unique κs a r r' s s' p q = ap element (p ∙ sym q)

pub rijndael8b_exp_power_of_2_unique : (κs : _) (a : _) (r r' : _) (s s' : _) → exp-power-of-2.Post κs a r s → exp-power-of-2.Post κs a r' s' → r ≡ r'
rijndael8b_exp_power_of_2_unique κs a r r' s s' p q = ap element (p ∙ sym q)

pub rijndael8b_sqrt_unique : (κs : _) (a : _) (r r' : _) (s s' : _) → sqrt.Post κs a r s → sqrt.Post κs a r' s' → r ≡ r'
rijndael8b_sqrt_unique κs a r r' s s' p q = ap element (p ∙ sym q)

pub rijndael8b_invert_or_zero_unique : (κs : _) (a : _) (r r' : _) (s s' : _) → invert-or-zero.Post κs a r s → invert-or-zero.Post κs a r' s' → r ≡ r'
rijndael8b_invert_or_zero_unique κs a r r' s s' p q = ap element (p ∙ sym q)

pub rijndael8b_try_inverse_unique : (κs : _) (a : _) (r r' : _) (s s' : _) → try-inverse.Post κs a r s → try-inverse.Post κs a r' s' → r ≡ r'
rijndael8b_try_inverse_unique κs a r r' s s' p q = p ∙ sym q

pub rijndael8b_div_unique : (κs : _) (a : _) (r r' : _) (s s' : _) → div.Post κs a r s → div.Post κs a r' s' → r ≡ r'
rijndael8b_div_unique κs a r r' s s' p q = p ∙ sym q

pub rijndael8b_interpolation_node_unique : (κs : _) (a : _) (r r' : _) (s s' : _) → interpolation-node.Post κs a r s → interpolation-node.Post κs a r' s' → r ≡ r'
rijndael8b_interpolation_node_unique κs a r r' s s' p q = p ∙ sym q

pub rijndael8b_read_unique : (κs : _) (a : _) (r r' : _) (s s' : _) → read.Post κs a r s → read.Post κs a r' s' → r ≡ r'
rijndael8b_read_unique κs a r r' s s' p q = p ∙ sym q

pub rijndael8b_write_unique : (κs : _) (a : _) (r r' : _) (s s' : _) → write.Post κs a r s → write.Post κs a r' s' → (r ≡ r') × (s.1.0.now ≡ s'.1.0.now)
rijndael8b_write_unique κs a r r' s s' p q = (p.0 ∙ sym q.0, p.1 ∙ sym q.1)

abbrev quadword : ℕ → ByteMatrix
quadword a = record { 0 = a }

pub rijndael8b_scaling_matrix_unique : (κs : _) (a : _) (r r' : _) (s s' : _) → scaling-matrix.Post κs a r s → scaling-matrix.Post κs a r' s' → r ≡ r'
rijndael8b_scaling_matrix_unique κs a r r' s s' p q = ap quadword (p ∙ sym q)
