-- What the quotient is: the one element that, times the divisor, gives the dividend.
use Rattle.std.proofs.Common.{◌≡◌, ℕ, ◌^◌, ◌<◌, ◌≢◌}
use Rattle.gf2.specs.Residue.{mul, inv}
use Rattle.fields.proofs.Field8.{field8}
use Rattle.answers.proofs.Quotient as quotient

-- a divided by b, times b, is a; and no other element times b is
pub quotient_times : (a b : ℕ) → a < 2 ^ 8 → b < 2 ^ 8 → b ≢ 0 → mul 8 0x1b (mul 8 0x1b a (inv 8 0x1b b)) b ≡ a
quotient_times = quotient.quotient_undone field8

pub only_quotient : (a b x : ℕ) → b < 2 ^ 8 → x < 2 ^ 8 → b ≢ 0 → mul 8 0x1b x b ≡ a → x ≡ mul 8 0x1b a (inv 8 0x1b b)
only_quotient = quotient.only_quotient field8
