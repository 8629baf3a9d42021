-- What it is for the residues modulo x^n + t to be a field, of 2^n elements.
use Rattle.std.specs.Prelude.{◌≡◌, ◌≢◌, ◌⊎◌, ℕ, ◌^◌, ◌≤◌, ◌<◌}
use Rattle.gf2.specs.Residue.{mul, sq, frob, inv, root}

pub record Field (n t : ℕ) : Type 0 where
  pub bits : 1 ≤ n
  pub tail : t < 2 ^ n
  -- every residue but 0 has exactly one inverse
  pub inverse_lt : (a : ℕ) → inv n t a < 2 ^ n
  pub inverse : (a : ℕ) → a < 2 ^ n → a ≢ 0 → mul n t a (inv n t a) ≡ 1
  pub only_inverse : (a b : ℕ) → a < 2 ^ n → b < 2 ^ n → mul n t a b ≡ 1 → b ≡ inv n t a
  -- a product is zero only if a factor is
  pub no_divisors : (a b : ℕ) → a < 2 ^ n → b < 2 ^ n → mul n t a b ≡ 0 → (a ≡ 0) ⊎ (b ≡ 0)
  -- every residue has exactly one square root
  pub root_lt : (a : ℕ) → a < 2 ^ n → root n t a < 2 ^ n
  pub square_root : (a : ℕ) → a < 2 ^ n → sq n t (root n t a) ≡ a
  pub only_root : (a b : ℕ) → a < 2 ^ n → b < 2 ^ n → sq n t b ≡ a → b ≡ root n t a
  -- n squarings leave every residue alone
  pub squarings : (a : ℕ) → a < 2 ^ n → frob n t n a ≡ a
