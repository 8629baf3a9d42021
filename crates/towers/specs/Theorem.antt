-- What the tower and its basis change are, as two statements: `tower` of proofs/Tower.antt and `basis_change` of
-- proofs/Change.antt prove them.
use Rattle.std.specs.Prelude.{◌≡◌, ◌≢◌, ℕ, suc, ◌*◌, ◌^◌, ◌<◌}
use Rattle.gf2.specs.Poly.{◌⊕◌, coef, xsum}
use Rattle.gf2.specs.Residue.{pow}
use Rattle.gf2.specs.Linear.{Additive}
use Rattle.towers.specs.Level.{size}
use Rattle.towers.specs.Mul.{gen, tmul, monomial}
use Rattle.towers.specs.Basis.{bmul, Smallest, out, into}

-- level k is a commutative ring of the numbers below size k, with the sum XOR, in which the generators obey their relation
pub record Tower (k : ℕ) : Type 0 where
  pub below : (a b : ℕ) → tmul k a b < size k
  pub comm : (a b : ℕ) → tmul k a b ≡ tmul k b a
  pub assoc : (a b c : ℕ) → tmul k (tmul k a b) c ≡ tmul k a (tmul k b c)
  pub one : (a : ℕ) → a < size k → tmul k 1 a ≡ a
  pub sum : (a b c : ℕ) → tmul k (a ⊕ b) c ≡ tmul k a c ⊕ tmul k b c
  -- X_k² = X_(k-1) · X_k + 1, one level up
  pub relation : tmul (suc k) (gen (suc k)) (gen (suc k)) ≡ tmul (suc k) (gen k) (gen (suc k)) ⊕ 1
  -- a value of the level below keeps its products
  pub up : (a b : ℕ) → a < size k → b < size k → tmul (suc k) a b ≡ tmul k a b
  -- bit j is the coefficient of the product of the generators that the bits of j name
  pub bits : (a : ℕ) → a < size k → a ≡ xsum (2 ^ k) (λ j. coef a j * monomial k j)

pub record BasisChange : Type 0 where
  -- X_k goes to the smallest nonzero byte that solves the same relation over the image of X_(k-1), and 1 to 1
  pub one : out 1 ≡ 1
  pub smallest : (k : ℕ) → k < 3 → Smallest (out (gen k)) (out (gen (suc k)))
  -- the two maps undo each other on all 256 bytes
  pub out_lt : (a : ℕ) → out a < 2 ^ 8
  pub into_lt : (a : ℕ) → into a < 2 ^ 8
  pub into_out : (a : ℕ) → a < 2 ^ 8 → into (out a) ≡ a
  pub out_into : (a : ℕ) → a < 2 ^ 8 → out (into a) ≡ a
  -- and keep sums and products
  pub out_sum : (a b : ℕ) → out (a ⊕ b) ≡ out a ⊕ out b
  pub into_sum : (a b : ℕ) → into (a ⊕ b) ≡ into a ⊕ into b
  pub out_mul : (a b : ℕ) → a < 2 ^ 8 → b < 2 ^ 8 → out (tmul 3 a b) ≡ bmul (out a) (out b)
  pub into_mul : (a b : ℕ) → a < 2 ^ 8 → b < 2 ^ 8 → into (bmul a b) ≡ tmul 3 (into a) (into b)
  -- no other map of bytes that keeps sums and products sends the generators so
  pub only : (f : ℕ → ℕ) → Additive 8 f → ((a b : ℕ) → a < 2 ^ 8 → b < 2 ^ 8 → f (tmul 3 a b) ≡ bmul (f a) (f b))
      → f 1 ≡ 1 → ((k : ℕ) → k < 3 → Smallest (f (gen k)) (f (gen (suc k)))) → (a : ℕ) → a < 2 ^ 8 → f a ≡ out a
  -- the first 255 powers of the image of tower byte 13 are distinct
  pub generates : (i j : ℕ) → i < j → j < 255 → pow 8 0x1b (out 0x13) i ≢ pow 8 0x1b (out 0x13) j
