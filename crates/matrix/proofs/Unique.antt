-- One answer only: any two answers that meet a call's contract, as the checker reads it, are equal, and so are the lent
-- bytes afterwards.
use mathlib.Core.Path.{◌≡◌, sym, ◌∙◌}
use Rattle.matrix.specs.declared.ByteMatrix.{ByteMatrix}
use Rattle.matrix.proofs.ByteMatrix.from_images.Reads as from-images
use Rattle.matrix.proofs.ByteMatrix.images.Reads as images
use Rattle.matrix.proofs.ByteMatrix.apply.Reads as apply
use Rattle.matrix.proofs.ByteMatrix.compose.Reads as compose
use Rattle.matrix.proofs.ByteMatrix.from_quadword.Reads as from-quadword
use Rattle.matrix.proofs.ByteMatrix.to_quadword.Reads as to-quadword
use Rattle.matrix.proofs.ByteMatrix.apply_slice.Reads as apply-slice

-- a matrix is its quadword
same : {m n : ByteMatrix} → m.0 ≡ n.0 → m ≡ n
same e = λ i. record { 0 = e i }

pub byte_matrix_from_images_unique : (κs : _) (a : _) (r r' : _) (s s' : _) → from-images.Post κs a r s → from-images.Post κs a r' s' → r ≡ r'
byte_matrix_from_images_unique κs a r r' s s' p q = same (p ∙ sym q)

pub byte_matrix_images_unique : (κs : _) (a : _) (r r' : _) (s s' : _) → images.Post κs a r s → images.Post κs a r' s' → r ≡ r'
byte_matrix_images_unique κs a r r' s s' p q = p ∙ sym q

pub byte_matrix_apply_unique : (κs : _) (a : _) (r r' : _) (s s' : _) → apply.Post κs a r s → apply.Post κs a r' s' → r ≡ r'
byte_matrix_apply_unique κs a r r' s s' p q = p ∙ sym q

pub byte_matrix_compose_unique : (κs : _) (a : _) (r r' : _) (s s' : _) → compose.Post κs a r s → compose.Post κs a r' s' → r ≡ r'
byte_matrix_compose_unique κs a r r' s s' p q = same (p ∙ sym q)

pub byte_matrix_from_quadword_unique : (κs : _) (a : _) (r r' : _) (s s' : _) → from-quadword.Post κs a r s → from-quadword.Post κs a r' s' → r ≡ r'
byte_matrix_from_quadword_unique κs a r r' s s' p q = same (p ∙ sym q)

pub byte_matrix_to_quadword_unique : (κs : _) (a : _) (r r' : _) (s s' : _) → to-quadword.Post κs a r s → to-quadword.Post κs a r' s' → r ≡ r'
byte_matrix_to_quadword_unique κs a r r' s s' p q = p ∙ sym q

pub byte_matrix_apply_slice_unique : (κs : _) (a : _) (r r' : _) (s s' : _) → apply-slice.Post κs a r s → apply-slice.Post κs a r' s' → s.1.0.now ≡ s'.1.0.now
byte_matrix_apply_slice_unique κs a r r' s s' p q = p ∙ sym q
