-- The sizes and the halves of products.
use mathlib.Core.Path.{◌≡◌, refl}
use Prim.Native.Nat.{ℕ, zero, suc, ◌*◌, ◌%◌, ◌^◌, ◌<◌}
use Rattle.towers.specs.Level.{◌⊞◌, size, lo, hi, join}
use Rattle.towers.specs.Mul.{talpha, tmul}
use Rattle.gf2.proofs.Xor.{bit-lt}
use Rattle.gf2.proofs.Shift.{bit-mul-lt}
use Rattle.towers.proofs.Sum.{sum_lt}
use Rattle.towers.proofs.Level.{lo-lt, hi-lt, lo-sum, hi-sum, lo-join, hi-join, join-lt}

-- ---- the clauses as laws, where `simp` and `rw` are to see the calls

pub alpha_bit : (a : ℕ) → talpha 0 a ≡ a % 2
unfolding talpha
alpha_bit a = refl

pub mul-bit : (a b : ℕ) → tmul 0 a b ≡ a % 2 * (b % 2)
unfolding tmul
mul-bit a b = refl

pub alpha_join : (k a : ℕ) → talpha (suc k) a ≡ join k (hi k a) (lo k a ⊞ talpha k (hi k a))
unfolding talpha
alpha_join k a = refl

-- ---- sizes

pub talpha-lt : (k a : ℕ) → talpha k a < size k
unfolding talpha
talpha-lt zero a = bit-lt a
talpha-lt (suc k) a = join-lt k (hi-lt k a) (sum_lt (2 ^ k) (lo-lt k a) (talpha-lt k _))

pub tmul-lt : (k a b : ℕ) → tmul k a b < size k
unfolding tmul
tmul-lt zero a b = bit-mul-lt 1 (bit-lt a) (bit-lt b)
tmul-lt (suc k) a b =
    join-lt k (sum_lt (2 ^ k) (tmul-lt k _ _) (tmul-lt k _ _)) (sum_lt (2 ^ k) (sum_lt (2 ^ k) (tmul-lt k _ _) (tmul-lt k _ _)) (talpha-lt k _))

-- ---- the halves

module _ (k : ℕ) where
  pub lo-mul : (a b : ℕ) → lo k (tmul (suc k) a b) ≡ tmul k (lo k a) (lo k b) ⊞ tmul k (hi k a) (hi k b)
  unfolding tmul
  lo-mul a b = lo-join k (sum_lt (2 ^ k) (tmul-lt k _ _) (tmul-lt k _ _)) _

  pub hi-mul : (a b : ℕ)
      → hi k (tmul (suc k) a b) ≡ tmul k (lo k a) (hi k b) ⊞ tmul k (hi k a) (lo k b) ⊞ talpha k (tmul k (hi k a) (hi k b))
  unfolding tmul
  hi-mul a b =
      hi-join k (sum_lt (2 ^ k) (tmul-lt k _ _) (tmul-lt k _ _)) (sum_lt (2 ^ k) (sum_lt (2 ^ k) (tmul-lt k _ _) (tmul-lt k _ _)) (talpha-lt k _))

  pub lo_alpha : (a : ℕ) → lo k (talpha (suc k) a) ≡ hi k a
  unfolding talpha
  lo_alpha a = lo-join k (hi-lt k a) _

  pub hi_alpha : (a : ℕ) → hi k (talpha (suc k) a) ≡ lo k a ⊞ talpha k (hi k a)
  unfolding talpha
  hi_alpha a = hi-join k (hi-lt k a) (sum_lt (2 ^ k) (lo-lt k a) (talpha-lt k _))

-- takes the halves of sums and products
pub ruleset halves = (lo-mul, hi-mul, lo_alpha, hi_alpha, lo-sum, hi-sum)
