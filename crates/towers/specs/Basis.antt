-- THE BASIS CHANGE from tower bytes to the bytes modulo x^8 + x^4 + x^3 + x + 1, and back.
use Rattle.std.specs.Prelude.{◌≡◌, List, [], ◌∷◌, ◌≢◌, ℕ, zero, suc, ◌^◌, ◌<◌, get_or}
use Rattle.gf2.specs.Poly.{◌⊕◌, coef}
use Rattle.gf2.specs.Bits.{tab}
use Rattle.gf2.specs.Linear.{apply}
use Rattle.gf2.specs.Residue.{mul}

-- the product of bytes
abbrev pub bmul : ℕ → ℕ → ℕ
bmul = mul 8 0x1b

-- x is the smallest nonzero byte that solves x² = p · x + 1
pub record Smallest (p x : ℕ) : Type 0 where
  pub byte : x < 2 ^ 8
  pub nonzero : x ≢ 0
  pub solves : bmul x x ≡ bmul p x ⊕ 1
  pub first : (y : ℕ) → y ≢ 0 → y < x → bmul y y ≢ bmul p y ⊕ 1

-- where the generators go: X_k to entry k (`xi_smallest`: the smallest solution over the entry before, or over 1)
unfoldable pub xi : List ℕ
xi = 0xbc ∷ 0x0c ∷ 0x35 ∷ []

-- where the product of the generators X_i that the bits i < k of j name goes
unfoldable pub monomial_image : ℕ → ℕ → ℕ
monomial_image zero j = 1
monomial_image (suc k) j = bmul (get_or xi k 0 ^ coef j k) (monomial_image k j)

-- where the eight bits of a tower byte go, and so the byte
unfoldable pub out_images : List ℕ
out_images = tab 8 (monomial_image 3)

unfoldable pub out : ℕ → ℕ
out a = apply out_images a

-- the way back, by where the powers of x go (`into_out`, `out_into`: it undoes `out`)
unfoldable pub into_images : List ℕ
into_images = 0x01 ∷ 0x59 ∷ 0xee ∷ 0xea ∷ 0x30 ∷ 0xcf ∷ 0x39 ∷ 0xf9 ∷ []

unfoldable pub into : ℕ → ℕ
into a = apply into_images a
