-- The sum of the tower is XOR, sealed: `simp sum-ring` sorts long sums of `⊞`, and `unfolding ◌⊞◌` shows the XOR again.
use mathlib.Core.Path.{◌≡◌}
use Prim.Native.Nat.{ℕ, ◌*◌, ◌/◌, ◌%◌, ◌^◌, ◌<◌}
use lib.Bits.{xor_comm, xor_self, xor_zero_r, xor_zero_l, xor_lt, xor_shr, xor_mod}
use Rattle.towers.specs.Level.{◌⊞◌}
use Rattle.gf2.proofs.Xor.{xor_assoc, xor_left_comm, xor_cancel, xor-eq}
use Rattle.gf2.proofs.Shift.{xor-shl, xor_bits}

pub sum_assoc : (a b c : ℕ) → a ⊞ b ⊞ c ≡ a ⊞ (b ⊞ c)
unfolding ◌⊞◌
sum_assoc = xor_assoc

pub sum_comm : (a b : ℕ) → a ⊞ b ≡ b ⊞ a
unfolding ◌⊞◌
sum_comm = xor_comm

pub sum_left_comm : (a b c : ℕ) → a ⊞ (b ⊞ c) ≡ b ⊞ (a ⊞ c)
unfolding ◌⊞◌
sum_left_comm = xor_left_comm

pub sum_self : (a : ℕ) → a ⊞ a ≡ 0
unfolding ◌⊞◌
sum_self = xor_self

pub sum_cancel : (a b : ℕ) → a ⊞ (a ⊞ b) ≡ b
unfolding ◌⊞◌
sum_cancel = xor_cancel

pub sum-zero_r : (a : ℕ) → a ⊞ 0 ≡ a
unfolding ◌⊞◌
sum-zero_r = xor_zero_r

pub sum-zero_l : (a : ℕ) → 0 ⊞ a ≡ a
unfolding ◌⊞◌
sum-zero_l = xor_zero_l

-- sorts a sum and drops what stands in it twice
pub ruleset sum-ring = (sum_assoc, sum_comm, sum_left_comm, sum_self, sum_cancel, sum-zero_r, sum-zero_l)

pub sum-eq : (a b : ℕ) → a ⊞ b ≡ 0 → a ≡ b
unfolding ◌⊞◌
sum-eq = xor-eq

-- ---- sums of numbers of k bits, and their parts

pub sum_lt : (k : ℕ) {a b : ℕ} → a < 2 ^ k → b < 2 ^ k → a ⊞ b < 2 ^ k
unfolding ◌⊞◌
sum_lt k {a} {b} = xor_lt k a b

pub sum-shr : (a b k : ℕ) → (a ⊞ b) / 2 ^ k ≡ a / 2 ^ k ⊞ b / 2 ^ k
unfolding ◌⊞◌
sum-shr = xor_shr

pub sum-mod : (a b k : ℕ) → (a ⊞ b) % 2 ^ k ≡ a % 2 ^ k ⊞ b % 2 ^ k
unfolding ◌⊞◌
sum-mod = xor_mod

pub sum-shl : (a b k : ℕ) → (a ⊞ b) * 2 ^ k ≡ a * 2 ^ k ⊞ b * 2 ^ k
unfolding ◌⊞◌
sum-shl = xor-shl

pub sum_bits : {x y : ℕ} → x < 2 → y < 2 → (c : ℕ) → (x ⊞ y) * c ≡ x * c ⊞ y * c
unfolding ◌⊞◌
sum_bits = xor_bits
