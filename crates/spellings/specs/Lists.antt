-- LISTS of n numbers of n bits: images, where entry b is where 2^b goes (their map is `apply` of gf2), and coefficients,
-- which send v to the sum over j of c_j times v^(2^j).
use Rattle.std.specs.Prelude.{◌≡◌, List, [], ◌∷◌, ℕ, ◌^◌, ◌<◌, length, get_or}
use Rattle.gf2.specs.Poly.{xsum}
use Rattle.gf2.specs.Bits.{tab}
use Rattle.gf2.specs.Residue.{mul, frob}

-- n numbers of n bits
pub record Residues (n : ℕ) (l : List ℕ) : Type 0 where
  pub size : length l ≡ n
  pub below : (i : ℕ) → get_or l i 0 < 2 ^ n

-- the images of a map
unfoldable pub find_images : ℕ → (ℕ → ℕ) → List ℕ
find_images n f = tab n (λ b. f (2 ^ b))

-- the value at v of the polynomial with the coefficients cs, modulo x^n + t
unfoldable pub eval : ℕ → ℕ → List ℕ → ℕ → ℕ
eval n t cs v = xsum n (λ j. mul n t (get_or cs j 0) (frob n t j v))

-- entry k of the row x times the array m
unfoldable pub times : ℕ → ℕ → (ℕ → ℕ) → (ℕ → ℕ → ℕ) → ℕ → ℕ
times n t x m k = xsum n (λ j. mul n t (x j) (m j k))

-- the entries d_b of a list, each to the powers 2^j
abbrev pub dual : ℕ → ℕ → List ℕ → ℕ → ℕ → ℕ
dual n t ds b j = frob n t j (get_or ds b 0)

-- the coefficients of a map, by a dual basis ds: c_j is the sum over b of (where 2^b goes) times d_b^(2^j)
unfoldable pub find_coefficients : ℕ → ℕ → List ℕ → (ℕ → ℕ) → List ℕ
find_coefficients n t ds f = tab n (times n t (λ b. f (2 ^ b)) (dual n t ds))

-- the dual basis of the byte field: the trace of entry b times x^k is 1 where b is k, and else 0 (found by tools/dual.py)
unfoldable pub dual8 : List ℕ
dual8 = 0x29 ∷ 0xb0 ∷ 0x58 ∷ 0x05 ∷ 0xa6 ∷ 0x53 ∷ 0xa4 ∷ 0x52 ∷ []
