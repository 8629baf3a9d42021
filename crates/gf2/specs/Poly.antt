-- Polynomials over two elements, written as numbers: bit i is the coefficient of x^i. Definitions only; the laws that
-- show them to be what the textbooks mean stand in proofs/ (`coef-xor`, `coef-cmul`, `ext`, `square_spread`).
use Rattle.std.specs.Prelude.{ℕ, zero, suc, ◌+◌, ◌*◌, ◌/◌, ◌%◌, ◌^◌}
use Rattle.std.specs.Int.Bits.{bit_xor}

-- the sum is XOR, as a machine computes it
infixl 65 ◌⊕◌
abbrev pub ◌⊕◌ : ℕ → ℕ → ℕ
◌⊕◌ = bit_xor

-- the coefficient of x^i
unfoldable pub coef : ℕ → ℕ → ℕ
coef a i = a / 2 ^ i % 2

-- f 0 ⊕ .. ⊕ f (k - 1)
unfoldable pub xsum : ℕ → (ℕ → ℕ) → ℕ
xsum zero f = 0
xsum (suc k) f = f 0 ⊕ xsum k (λ i. f (suc i))

-- f 0 + .. + f (k - 1), the sum of numbers
unfoldable pub sum : ℕ → (ℕ → ℕ) → ℕ
sum zero f = 0
sum (suc k) f = f 0 + sum k (λ i. f (suc i))

-- recursion on a number's binary digits: z at 0, and s at a number, given what the number without its lowest digit
-- gave. The first argument of `bin_go` only bounds the depth; a number is as much as its own digits need
module _ (z : ℕ) (s : ℕ → ℕ → ℕ) where
  unfoldable pub bin_go : ℕ → ℕ → ℕ
  bin_go zero a = z
  bin_go (suc f) zero = z
  bin_go (suc f) (suc a) = s (suc a) (bin_go f (suc a / 2))

  unfoldable pub bin_rec : ℕ → ℕ
  bin_rec a = bin_go a a

-- the product, digit by digit of a: the lowest digit times b, and x times the product of the rest
unfoldable pub cmul : ℕ → ℕ → ℕ
cmul a b = bin_rec 0 (λ d r. d % 2 * b ⊕ r * 2) a

-- the coefficients two apart: bit i of a at bit 2i
unfoldable pub spread : ℕ → ℕ
spread a = bin_rec 0 (λ d r. r * 4 + d % 2) a
