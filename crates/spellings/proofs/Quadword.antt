-- QUADWORDS: 64 bits. Output bit i is the parity of the input ANDed with byte 7 - i.
use mathlib.Core.Path.{◌≡◌, sym, ap, ap₂, ◌∙◌}
use Prim.Native.Nat.{ℕ, ◌+◌, ◌-◌, ◌*◌, ◌/◌, ◌%◌, ◌^◌, ◌<◌}
use native.Mathlib.Omega.{arith}
use lib.Pow.{pow-lt}
use lib.Bits.{bit_and, xor_lt}
use Rattle.gf2.specs.Poly.{◌⊕◌, coef}
use Rattle.gf2.specs.Bits.{parity}
use Rattle.spellings.specs.Maps.{Linear}
use Rattle.spellings.specs.Quadword.{byte, image, find_quadword}
use Rattle.gf2.proofs.Shift.{coef-lt, coef-xor, ext_below}
use Rattle.gf2.proofs.Bits.{poly_below, poly-lt, coef-poly, parity-lt, parity-xor, parity-pow, and_xor, coef-shr, coef_low}
use Rattle.spellings.proofs.Spelling.{Spelling}
use Rattle.spellings.proofs.Linear.{Finder, spelling}

coef-image : (q a i : ℕ) → i < 8 → coef (image q a) i ≡ parity 8 (bit_and a (byte q (7 - i)))
unfolding image
coef-image q a = coef-poly 8 (λ i. parity 8 (bit_and a (byte q (7 - i)))) (λ i. parity-lt 8 (bit_and a (byte q (7 - i))))

image-lt : (q a : ℕ) → image q a < 2 ^ 8
unfolding image
image-lt q a = poly-lt 8 (λ i. parity 8 (bit_and a (byte q (7 - i)))) (λ i. parity-lt 8 (bit_and a (byte q (7 - i))))

image-xor : (q a b : ℕ) → image q (a ⊕ b) ≡ image q a ⊕ image q b
image-xor q a b =
    ext_below 8 (image q (a ⊕ b)) (image q a ⊕ image q b) (image-lt q (a ⊕ b)) (xor_lt 8 (image q a) (image q b) (image-lt q a) (image-lt q b))
    (λ i h. coef-image q (a ⊕ b) i h ∙ ap (parity 8) (and_xor a b (byte q (7 - i)))
    ∙ parity-xor 8 (bit_and a (byte q (7 - i))) (bit_and b (byte q (7 - i)))
    ∙ sym (coef-xor (image q a) (image q b) i ∙ ap₂ ◌⊕◌ (coef-image q a i h) (coef-image q b i h)))

pub image_linear : (q : ℕ) → Linear 8 (image q)
image_linear q = record { keeps = λ a b ha hb. image-xor q a b; below = λ a h. image-lt q a }

-- the law that both ways rest on: the image of 2^b has the bits of the quadword
pub image-pow : (q b i : ℕ) → b < 8 → i < 8 → coef (image q (2 ^ b)) i ≡ coef q (8 * (7 - i) + b)
unfolding byte
image-pow q b i hb hi =
    coef-image q (2 ^ b) i hi ∙ parity-pow 8 (byte q (7 - i)) b hb ∙ coef_low (q / 2 ^ (8 * (7 - i))) 8 b hb ∙ coef-shr q (8 * (7 - i)) b

coef-find : (f : ℕ → ℕ) (k : ℕ) → k < 64 → coef (find_quadword f) k ≡ coef (f (2 ^ (k % 8))) (7 - k / 8)
unfolding find_quadword
coef-find f = coef-poly 64 (λ k. coef (f (2 ^ (k % 8))) (7 - k / 8)) (λ k. coef-lt (f (2 ^ (k % 8))) (7 - k / 8))

find-lt : (f : ℕ → ℕ) → find_quadword f < 2 ^ 64
unfolding find_quadword
find-lt f = poly-lt 64 (λ k. coef (f (2 ^ (k % 8))) (7 - k / 8)) (λ k. coef-lt (f (2 ^ (k % 8))) (7 - k / 8))

reads : (f g : ℕ → ℕ) → ((b : ℕ) → b < 8 → f (2 ^ b) ≡ g (2 ^ b)) → find_quadword f ≡ find_quadword g
unfolding find_quadword
reads f g e = poly_below 64 (λ k h. ap (λ (x : ℕ). coef x (7 - k / 8)) (e (k % 8) (omega arith)))

hits : (f : ℕ → ℕ) → Linear 8 f → (b : ℕ) → b < 8 → image (find_quadword f) (2 ^ b) ≡ f (2 ^ b)
hits f m b h =
    ext_below 8 (image (find_quadword f) (2 ^ b)) (f (2 ^ b)) (image-lt (find_quadword f) (2 ^ b)) (m.below (2 ^ b) (pow-lt h))
    (λ i l. image-pow (find_quadword f) b i h l ∙ coef-find f (8 * (7 - i) + b) (omega arith)
    ∙ ap₂ (λ (c j : ℕ). coef (f (2 ^ c)) j) (omega arith) (omega arith))

undoes : (q : ℕ) → q < 2 ^ 64 → find_quadword (image q) ≡ q
undoes q h =
    ext_below 64 (find_quadword (image q)) q (find-lt (image q)) h
    (λ k l. coef-find (image q) k l ∙ image-pow q (k % 8) (7 - k / 8) (omega arith) (omega arith) ∙ ap (coef q) (omega arith))

pub quadword_finder : Finder 8 ℕ (λ q. q < 2 ^ 64) image find_quadword
quadword_finder =
    record {
      means = λ q h. image_linear q;
      valid = λ f m. find-lt f;
      reads = reads;
      hits = hits;
      undoes = undoes;
    }

abbrev pub quadword : Spelling 8 (Linear 8)
quadword = spelling quadword_finder
