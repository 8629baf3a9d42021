-- The byte field's laws, each cited from the theorem that the residues of 8 bits are a field.
use Rattle.std.proofs.Common.{◌≡◌, ℕ, ◌%◌, ◌^◌, ◌<◌, ◌≢◌, ◌⊎◌}
use Rattle.gf2.specs.Residue.{mul, sq, frob, inv, root}
use Rattle.gf2.proofs.Field.{frob-mod}
use Rattle.fields.proofs.Field8.{field8}

-- a nonzero element times its inverse is one, and no other element has that product
pub mul_inverse : (a : ℕ) → a < 2 ^ 8 → a ≢ 0 → mul 8 0x1b a (inv 8 0x1b a) ≡ 1
mul_inverse = field8.inverse

pub only_inverse : (a b : ℕ) → a < 2 ^ 8 → b < 2 ^ 8 → mul 8 0x1b a b ≡ 1 → b ≡ inv 8 0x1b a
only_inverse = field8.only_inverse

-- a product is zero only if a factor is
pub mul-zero_only : (a b : ℕ) → a < 2 ^ 8 → b < 2 ^ 8 → mul 8 0x1b a b ≡ 0 → (a ≡ 0) ⊎ (b ≡ 0)
mul-zero_only = field8.no_divisors

-- every element has exactly one square root
pub sq-root : (a : ℕ) → a < 2 ^ 8 → sq 8 0x1b (root 8 0x1b a) ≡ a
sq-root = field8.square_root

pub only_root : (a b : ℕ) → a < 2 ^ 8 → b < 2 ^ 8 → sq 8 0x1b b ≡ a → b ≡ root 8 0x1b a
only_root = field8.only_root

-- of a number of squarings only the remainder by 8 matters
pub frob_remainder : (k a : ℕ) → a < 2 ^ 8 → frob 8 0x1b k a ≡ frob 8 0x1b (k % 8) a
frob_remainder = frob-mod field8
