-- What `apply` computes is the image. The byte against all rows is a quadword h, and the image is where h sends the byte of
-- all ones; the folds leave its bits at the bottoms of the rows, and the ladder gathers them.
use mathlib.Core.Path.{◌≡◌, ap, ◌∙◌}
use Prim.Native.Nat.{ℕ, ◌-◌, ◌*◌, ◌/◌, ◌%◌, ◌^◌, ◌<◌}
use native.Mathlib.Nat.{lt_of_le_of_lt}
use lib.Dec.{T, eqb, eqb→eq, lit<}
use lib.Bits.{bit_and, xor_shr, and_le_l}
use Rattle.gf2.specs.Poly.{◌⊕◌, coef, xsum}
use Rattle.gf2.specs.Bits.{poly, parity, tab}
use Rattle.gf2.specs.Linear.{apply}
use Rattle.words.specs.Words.{rev}
use Rattle.spellings.specs.Quadword.{byte, image}
use Rattle.gf2.proofs.Xor.{xor_medial}
use Rattle.gf2.proofs.Linear.{linear_test, all, all_at, apply-xor}
use Rattle.gf2.proofs.Bits.{and_xor}
use Rattle.spellings.proofs.Quadword.{image_linear}
use Rattle.spellings.proofs.Image.{image-xor_l, image_mask}

-- ---- the byte in all eight places

spread_test : T (all 256 (λ a. all 8 (λ k. eqb (byte (a * 0x0101010101010101) k) a)))
unfolding all byte
spread_test = tt

spread-byte : (a : ℕ) → a < 2 ^ 8 → (k : ℕ) → k < 8 → byte (a * 0x0101010101010101) k ≡ a
spread-byte a h k l =
    eqb→eq (byte (a * 0x0101010101010101) k) a
    (all_at 8 (λ k. eqb (byte (a * 0x0101010101010101) k) a)
    (all_at 256 (λ a. all 8 (λ k. eqb (byte (a * 0x0101010101010101) k) a)) spread_test a h) k l)

-- ---- the parities of the rows

-- the upper part is XORed onto the lower
abbrev fold : ℕ → ℕ → ℕ
fold k h = h ⊕ h / 2 ^ k

fold-xor : (k a b : ℕ) → fold k (a ⊕ b) ≡ fold k a ⊕ fold k b
fold-xor k a b = simp xor_shr (xor_medial a b (a / 2 ^ k) (b / 2 ^ k))

abbrev pub parities : ℕ → ℕ
parities h = bit_and (fold 1 (fold 2 (fold 4 h))) 0x0101010101010101

-- bit i of a byte at the bottom of row 7 - i
bottoms : ℕ → ℕ
bottoms = apply (tab 8 (λ i. 2 ^ (8 * (7 - i))))

parities_bottoms : (h : ℕ) → h < 2 ^ 64 → parities h ≡ bottoms (image h 0xff)
unfolding all bottoms apply tab image poly parity xsum coef byte
parities_bottoms =
    linear_test 64 parities (λ h. bottoms (image h 0xff)) (λ a b ha hb. simp (fold-xor, and_xor))
    (λ a b ha hb. ap bottoms (image-xor_l a b 0xff) ∙ apply-xor (tab 8 (λ i. 2 ^ (8 * (7 - i)))) (image a 0xff) (image b 0xff)) tt

-- ---- gathered

-- the ladder brings the bottoms into the topmost byte
abbrev pub gather : ℕ → ℕ
gather p = rev 8 (p * 0x0102040810204080 % 2 ^ 64 / 2 ^ 56)

gather_test : T (all 256 (λ a. eqb (gather (bottoms a)) a))
unfolding all bottoms apply tab rev
gather_test = tt

gather_bottoms : (a : ℕ) → a < 2 ^ 8 → gather (bottoms a) ≡ a
gather_bottoms a h = eqb→eq (gather (bottoms a)) a (all_at 256 (λ a. eqb (gather (bottoms a)) a) gather_test a h)

-- ---- all of it

pub gather-parities : (q a : ℕ) → q < 2 ^ 64 → a < 2 ^ 8 → gather (parities (bit_and q (a * 0x0101010101010101))) ≡ image q a
gather-parities q a hq ha =
    let s : ℕ = a * 0x0101010101010101 in
    ap gather (parities_bottoms (bit_and q s) (lt_of_le_of_lt (and_le_l q s) hq))
    ∙ gather_bottoms (image (bit_and q s) 0xff) ((image_linear (bit_and q s)).below 0xff (lit< tt))
    ∙ image_mask q s a (spread-byte a ha)
