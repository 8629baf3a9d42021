-- The tower is a commutative ring at every level. Each law goes up from a level to the next by
-- the halves of its two sides.
use mathlib.Core.Path.{◌≡◌, sym, ap, ap₂, ◌∙◌}
use Prim.Native.Nat.{ℕ, zero, suc, ◌*◌, ◌%◌, ◌^◌, ◌<◌}
use native.Mathlib.Nat.{mul_comm, mul_assoc, one-mul, mod-eq_of_lt, mod-mod}
use Rattle.towers.specs.Level.{◌⊞◌, size, lo, hi}
use Rattle.towers.specs.Mul.{talpha, tmul}
use Rattle.gf2.proofs.Xor.{bit-lt}
use Rattle.gf2.proofs.Shift.{bit-mul-lt}
use Rattle.towers.proofs.Sum.{sum-ring, sum-mod, sum_bits, sum_lt, sum_self}
use Rattle.towers.proofs.Level.{one-lt, lo-lt, hi-lt, lo_low, hi_low, by_halves}
use Rattle.towers.proofs.Mul.{alpha_bit, mul-bit, talpha-lt, tmul-lt, halves}

-- ---- sums

pub talpha-sum : (k a b : ℕ) → talpha k (a ⊞ b) ≡ talpha k a ⊞ talpha k b
talpha-sum zero a b = simp alpha_bit (sum-mod a b 1)
talpha-sum (suc k) a b =
    by_halves k (talpha-lt (suc k) (a ⊞ b)) (sum_lt (2 ^ suc k) (talpha-lt (suc k) a) (talpha-lt (suc k) b)) (simp halves)
    (simp (halves, talpha-sum k, sum-ring))

pub tmul_comm : (k a b : ℕ) → tmul k a b ≡ tmul k b a
tmul_comm zero a b = simp mul-bit (mul_comm (a % 2) (b % 2))
tmul_comm (suc k) a b =
    by_halves k (tmul-lt (suc k) a b) (tmul-lt (suc k) b a) (simp (halves, tmul_comm k)) (simp (halves, tmul_comm k, sum-ring))

pub tmul-sum_l : (k a b c : ℕ) → tmul k (a ⊞ b) c ≡ tmul k a c ⊞ tmul k b c
tmul-sum_l zero a b c = simp mul-bit (ap (λ (x : ℕ). x * (c % 2)) (sum-mod a b 1) ∙ sum_bits (bit-lt a) (bit-lt b) (c % 2))
tmul-sum_l (suc k) a b c =
    by_halves k (tmul-lt (suc k) (a ⊞ b) c) (sum_lt (2 ^ suc k) (tmul-lt (suc k) a c) (tmul-lt (suc k) b c))
    (simp (halves, tmul-sum_l k, sum-ring)) (simp (halves, tmul-sum_l k, talpha-sum, sum-ring))

pub tmul-sum_r : (k a b c : ℕ) → tmul k a (b ⊞ c) ≡ tmul k a b ⊞ tmul k a c
tmul-sum_r k a b c = tmul_comm k a (b ⊞ c) ∙ tmul-sum_l k b c a ∙ ap₂ ◌⊞◌ (tmul_comm k b a) (tmul_comm k c a)

-- ---- products

bits_lt : (a b : ℕ) → a % 2 * (b % 2) < 2
bits_lt a b = bit-mul-lt 1 (bit-lt a) (bit-lt b)

-- X_(k-1) comes out of a product
pub talpha-mul_l : (k a b : ℕ) → tmul k (talpha k a) b ≡ talpha k (tmul k a b)
talpha-mul_l zero a b = simp (alpha_bit, mul-bit, mod-mod, mod-eq_of_lt (bits_lt a b))
talpha-mul_l (suc k) a b =
    by_halves k (tmul-lt (suc k) (talpha (suc k) a) b) (talpha-lt (suc k) (tmul (suc k) a b))
    (simp (halves, tmul-sum_l, talpha-mul_l k, sum-ring)) (simp (halves, tmul-sum_l, talpha-sum, talpha-mul_l k, sum-ring))

pub talpha-mul_r : (k a b : ℕ) → tmul k a (talpha k b) ≡ talpha k (tmul k a b)
talpha-mul_r k a b = tmul_comm k a (talpha k b) ∙ talpha-mul_l k b a ∙ ap (talpha k) (tmul_comm k b a)

-- multiplies sums out
pub ruleset expand = (tmul-sum_l, tmul-sum_r, talpha-sum, talpha-mul_l, talpha-mul_r)

pub tmul_assoc : (k a b c : ℕ) → tmul k (tmul k a b) c ≡ tmul k a (tmul k b c)
tmul_assoc zero a b c = simp (mul-bit, mod-eq_of_lt (bits_lt a b), mod-eq_of_lt (bits_lt b c), mul_assoc)
tmul_assoc (suc k) a b c =
    by_halves k (tmul-lt (suc k) (tmul (suc k) a b) c) (tmul-lt (suc k) a (tmul (suc k) b c))
    (simp (halves, expand, tmul_assoc k, sum-ring)) (simp (halves, expand, tmul_assoc k, sum-ring))

pub tmul_left_comm : (k a b c : ℕ) → tmul k a (tmul k b c) ≡ tmul k b (tmul k a c)
tmul_left_comm k a b c = sym (tmul_assoc k a b c) ∙ ap (λ (x : ℕ). tmul k x c) (tmul_comm k a b) ∙ tmul_assoc k b a c

-- multiplies out, and sorts products and sums
pub ruleset ring = (expand, tmul_assoc, tmul_comm, tmul_left_comm, sum-ring)

-- ---- zero and one

pub talpha-zero : (k : ℕ) → talpha k 0 ≡ 0
talpha-zero k = ap (talpha k) (sym (sum_self 0)) ∙ talpha-sum k 0 0 ∙ sum_self (talpha k 0)

pub tmul-zero_l : (k a : ℕ) → tmul k 0 a ≡ 0
tmul-zero_l k a = ap (λ (x : ℕ). tmul k x a) (sym (sum_self 0)) ∙ tmul-sum_l k 0 0 a ∙ sum_self (tmul k 0 a)

pub tmul-zero_r : (k a : ℕ) → tmul k a 0 ≡ 0
tmul-zero_r k a = tmul_comm k a 0 ∙ tmul-zero_l k a

pub ruleset zeros = (talpha-zero, tmul-zero_l, tmul-zero_r)

pub lo-one : (k : ℕ) → lo k 1 ≡ 1
lo-one k = lo_low k (one-lt k)

pub hi-one : (k : ℕ) → hi k 1 ≡ 0
hi-one k = hi_low k (one-lt k)

pub ruleset one = (lo-one, hi-one)

pub tmul-one_l : (k : ℕ) {a : ℕ} → a < size k → tmul k 1 a ≡ a
tmul-one_l zero {a} h = simp (mul-bit, one-mul, mod-eq_of_lt h)
tmul-one_l (suc k) {a} h =
    by_halves k (tmul-lt (suc k) 1 a) h (simp (halves, one, tmul-one_l k (lo-lt k a), zeros, sum-ring))
    (simp (halves, one, tmul-one_l k (hi-lt k a), zeros, sum-ring))

pub tmul-one_r : (k : ℕ) {a : ℕ} → a < size k → tmul k a 1 ≡ a
tmul-one_r k {a} h = tmul_comm k a 1 ∙ tmul-one_l k h
