-- What it is for the residues modulo x^n + t, with XOR and the product, to be a commutative ring of characteristic two with
-- one, in which squaring keeps sums.
use Rattle.std.specs.Prelude.{◌≡◌, ℕ, ◌^◌, ◌<◌}
use Rattle.gf2.specs.Poly.{◌⊕◌}
use Rattle.gf2.specs.Residue.{mul, sq}

pub record Ring (n t : ℕ) : Type 0 where
  -- the sum is a group, each element its own opposite
  pub sum_lt : (a b : ℕ) → a < 2 ^ n → b < 2 ^ n → a ⊕ b < 2 ^ n
  pub sum_assoc : (a b c : ℕ) → a ⊕ b ⊕ c ≡ a ⊕ (b ⊕ c)
  pub sum_comm : (a b : ℕ) → a ⊕ b ≡ b ⊕ a
  pub sum_zero : (a : ℕ) → a ⊕ 0 ≡ a
  pub sum_self : (a : ℕ) → a ⊕ a ≡ 0
  -- the product
  pub product_lt : (a b : ℕ) → mul n t a b < 2 ^ n
  pub product_assoc : (a b c : ℕ) → mul n t (mul n t a b) c ≡ mul n t a (mul n t b c)
  pub product_comm : (a b : ℕ) → mul n t a b ≡ mul n t b a
  pub product_one : (a : ℕ) → a < 2 ^ n → mul n t a 1 ≡ a
  pub distributes : (a b c : ℕ) → mul n t a (b ⊕ c) ≡ mul n t a b ⊕ mul n t a c
  -- the square
  pub square : (a : ℕ) → sq n t a ≡ mul n t a a
  pub square_sum : (a b : ℕ) → sq n t (a ⊕ b) ≡ sq n t a ⊕ sq n t b
