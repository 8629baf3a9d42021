-- QUADWORDS: 64 bits. Output bit i is the parity of the input ANDed with byte 7 - i.
use Rattle.std.specs.Prelude.{ℕ, ◌-◌, ◌*◌, ◌/◌, ◌%◌, ◌^◌}
use Rattle.std.specs.Int.Bits.{bit_and}
use Rattle.gf2.specs.Poly.{coef}
use Rattle.gf2.specs.Bits.{poly, parity}

-- byte k: bits 8k to 8k + 7
unfoldable pub byte : ℕ → ℕ → ℕ
byte q k = q / 2 ^ (8 * k) % 2 ^ 8

-- where the quadword q sends the byte a
unfoldable pub image : ℕ → ℕ → ℕ
image q a = poly 8 (λ i. parity 8 (bit_and a (byte q (7 - i))))

-- the quadword of a map: bit 8k + b is bit 7 - k of where the map sends 2^b
unfoldable pub find_quadword : (ℕ → ℕ) → ℕ
find_quadword f = poly 64 (λ k. coef (f (2 ^ (k % 8))) (7 - k / 8))
