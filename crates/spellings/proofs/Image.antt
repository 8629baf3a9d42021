-- The image of a byte, seen as a function of the quadword: the sum of two quadwords is the sum of their maps, and masking
-- every row by one byte is masking the input by it.
use mathlib.Core.Path.{◌≡◌, ap, ap₂, ◌∙◌}
use Prim.Native.Nat.{ℕ, ◌-◌, ◌*◌, ◌/◌, ◌^◌, ◌<◌}
use native.Mathlib.Nat.{mod-eq_of_lt, mod-lt}
use native.Mathlib.Omega.{arith}
use lib.Pow.{pow_pos}
use lib.Bits.{bit_and, and_shr, and_mod, and_mask, and_comm, xor_shr, xor_mod}
use Rattle.gf2.specs.Poly.{◌⊕◌}
use Rattle.gf2.specs.Bits.{poly, parity}
use Rattle.spellings.specs.Quadword.{byte, image}
use Rattle.gf2.proofs.Shift.{xor_bits}
use Rattle.gf2.proofs.Sum.{xsum_below, xsum-xor}
use Rattle.gf2.proofs.Bits.{poly_below, parity-lt, parity-xor, and_xor}

pub byte-lt : (q k : ℕ) → byte q k < 2 ^ 8
unfolding byte
byte-lt q k = mod-lt (q / 2 ^ (8 * k)) (pow_pos 8)

pub byte-xor : (p q k : ℕ) → byte (p ⊕ q) k ≡ byte p k ⊕ byte q k
unfolding byte
byte-xor p q k = simp (xor_shr, xor_mod)

pub byte-and : (p q k : ℕ) → byte (bit_and p q) k ≡ bit_and (byte p k) (byte q k)
unfolding byte
byte-and p q k = simp (and_shr, and_mod)

-- a row against a byte
abbrev row : ℕ → ℕ → ℕ → ℕ
row q a i = parity 8 (bit_and a (byte q (7 - i)))

row-xor : (p q a i : ℕ) → row (p ⊕ q) a i ≡ row p a i ⊕ row q a i
row-xor p q a i =
    let u : ℕ = byte p (7 - i) in
    let v : ℕ = byte q (7 - i) in
    ap (λ (x : ℕ). parity 8 (bit_and a x)) (byte-xor p q (7 - i))
    ∙ ap (parity 8) (and_comm a (u ⊕ v) ∙ and_xor u v a ∙ ap₂ ◌⊕◌ (and_comm u a) (and_comm v a))
    ∙ parity-xor 8 (bit_and a u) (bit_and a v)

pub image-xor_l : (p q a : ℕ) → image (p ⊕ q) a ≡ image p a ⊕ image q a
unfolding image poly
image-xor_l p q a =
    xsum_below 8 (λ i h. ap (λ (x : ℕ). x * 2 ^ i) (row-xor p q a i)
    ∙ xor_bits (parity-lt 8 (bit_and a (byte p (7 - i)))) (parity-lt 8 (bit_and a (byte q (7 - i)))) (2 ^ i))
    ∙ xsum-xor 8 (λ i. row p a i * 2 ^ i) (λ i. row q a i * 2 ^ i)

-- where s has the byte a in every place: the rows masked by s, against all ones, are the rows against a
pub image_mask : (q s a : ℕ) → ((k : ℕ) → k < 8 → byte s k ≡ a) → image (bit_and q s) 0xff ≡ image q a
unfolding image
image_mask q s a h = poly_below 8 (λ i l. ap (parity 8) (masked (7 - i) (omega arith)))
  where
    masked : (k : ℕ) → k < 8 → bit_and 0xff (byte (bit_and q s) k) ≡ bit_and a (byte q k)
    masked k l =
        and_comm 0xff (byte (bit_and q s) k) ∙ and_mask (byte (bit_and q s) k) 8 ∙ mod-eq_of_lt (byte-lt (bit_and q s) k)
        ∙ byte-and q s k ∙ ap (bit_and (byte q k)) (h k l) ∙ and_comm (byte q k) a
