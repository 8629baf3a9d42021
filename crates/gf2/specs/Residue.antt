-- Residues modulo the polynomial x^n + t, where t is of degree below n: numbers below 2^n.
use Rattle.std.specs.Prelude.{◌≡◌, ℕ, zero, suc, pred, ◌+◌, ◌-◌, ◌*◌, ◌/◌, ◌%◌, ◌^◌, ◌<◌}
use Rattle.gf2.specs.Poly.{◌⊕◌, xsum, bin_rec, cmul, spread}

-- the polynomial itself, as a number
unfoldable pub modulus : ℕ → ℕ → ℕ
modulus n t = 2 ^ n + t

-- one fold: x^n is t, so what stands above x^n, times t, is added to what stands below
unfoldable pub red : ℕ → ℕ → ℕ → ℕ
red n t x = cmul (x / 2 ^ n) t ⊕ x % 2 ^ n

-- the remainder: Horner's rule over the binary digits, a fold at each
unfoldable pub rem : ℕ → ℕ → ℕ → ℕ
rem n t a = bin_rec 0 (λ d r. red n t (r * 2 + d % 2)) a

-- what a remainder is: of fewer than n bits, and a multiple of the modulus away (`rem_is` and `rem_only` of proofs/Quo.antt:
-- `rem n t a` is the one remainder of a)
pub record Remainder (n t a r : ℕ) : Type 0 where
  pub below : r < 2 ^ n
  pub quotient : ℕ
  pub differs : a ≡ cmul quotient (modulus n t) ⊕ r

-- the product of residues
unfoldable pub mul : ℕ → ℕ → ℕ → ℕ → ℕ
mul n t a b = rem n t (cmul a b)

-- the sum of k products: x 0 times y 0, and so on to x (k - 1) times y (k - 1)
unfoldable pub dot : ℕ → ℕ → ℕ → (ℕ → ℕ) → (ℕ → ℕ) → ℕ
dot n t k x y = xsum k (λ i. mul n t (x i) (y i))

-- the square, by spreading the bits (`sq_is`: the product with itself)
unfoldable pub sq : ℕ → ℕ → ℕ → ℕ
sq n t a = rem n t (spread a)

-- a to the power k
unfoldable pub pow : ℕ → ℕ → ℕ → ℕ → ℕ
pow n t a zero = 1
pow n t a (suc k) = mul n t a (pow n t a k)

-- a squared k times: a to the power 2^k
unfoldable pub frob : ℕ → ℕ → ℕ → ℕ → ℕ
frob n t zero a = a
frob n t (suc k) a = sq n t (frob n t k a)

-- in a field of 2^n elements the inverse is the power 2^n - 2 (0 for 0), and the square root n - 1 squarings
unfoldable pub inv : ℕ → ℕ → ℕ → ℕ
inv n t a = pow n t a (2 ^ n - 2)

unfoldable pub root : ℕ → ℕ → ℕ → ℕ
root n t a = frob n t (pred n) a
