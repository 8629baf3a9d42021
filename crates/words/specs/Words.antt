-- Words read from the other end, and every second bit of a word.
use Rattle.std.specs.Prelude.{ℕ, zero, suc, ◌*◌, ◌/◌, ◌%◌, ◌^◌}
use Rattle.gf2.specs.Poly.{◌⊕◌, coef}
use Rattle.gf2.specs.Bits.{poly}

-- the n low bits of a in the other order: bit 0 goes to n - 1
unfoldable pub rev : ℕ → ℕ → ℕ
rev zero a = 0
rev (suc n) a = a % 2 * 2 ^ n ⊕ rev n (a / 2)

-- bit 2i of a word of 64 bits at bit i, for i from 0 to 31, and zeros above
unfoldable pub compact : ℕ → ℕ
compact a = poly 32 (λ i. coef a (2 * i))
