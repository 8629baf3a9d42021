-- Multiplication by one byte is a byte map: the matrix found for it multiplies, and is the one made of its eight images.
use Rattle.std.proofs.Common.{◌≡◌, ℕ, ◌^◌, ◌<◌, List, ap, ◌∙◌, lit<}
use Rattle.gf2.specs.Bits.{tab}
use Rattle.gf2.specs.Residue.{mul}
use Rattle.gf2.proofs.Ring.{mul-lt, mul-xor_r}
use Rattle.spellings.specs.Maps.{Linear, Same}
use Rattle.spellings.specs.Kinds.{meaning, find, turn}
use Rattle.spellings.specs.Kinds.Kind.{Quadword, Images}
use Rattle.spellings.specs.Lists.{find_images}
use Rattle.spellings.proofs.Spelling.{only, find_via}
use Rattle.spellings.proofs.Bytes.{kind}

pub scaling : (a : ℕ) → Linear 8 (mul 8 0x1b a)
scaling a = record { keeps = λ b c hb hc. mul-xor_r 8 0x1b a b c; below = λ b h. mul-lt 8 0x1b (lit< tt) a b }

-- the matrix multiplies
pub scaling_multiplies : (a : ℕ) → Same 8 (meaning Quadword (find Quadword (mul 8 0x1b a))) (mul 8 0x1b a)
scaling_multiplies a = (kind Quadword).found (mul 8 0x1b a) (scaling a)

-- no other quadword does
pub only_scaling : (a q : ℕ) → q < 2 ^ 64 → Same 8 (meaning Quadword q) (mul 8 0x1b a) → q ≡ find Quadword (mul 8 0x1b a)
only_scaling a = only (kind Quadword) (mul 8 0x1b a) (scaling a)

-- it is made of the images of the single-bit bytes
pub scaling_images : (a : ℕ) {l : List ℕ} → l ≡ tab 8 (λ b. mul 8 0x1b a (2 ^ b)) → turn Images Quadword l ≡ find Quadword (mul 8 0x1b a)
unfolding find_images
scaling_images a e = ap (turn Images Quadword) e ∙ find_via (kind Images) (kind Quadword) (mul 8 0x1b a) (scaling a)
