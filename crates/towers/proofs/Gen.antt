-- The generator X_(k-1) of a level, and the values that use only the lower half.
use mathlib.Core.Path.{◌≡◌, sym, ap, ◌∙◌}
use Prim.Native.Nat.{ℕ, zero, suc, ◌^◌, ◌<◌}
use native.Mathlib.Nat.{le_refl, one-mul}
use lib.Pow.{pow-lt}
use Rattle.towers.specs.Level.{◌⊞◌, size, lo, hi, join}
use Rattle.towers.specs.Mul.{gen, talpha, tmul}
use Rattle.towers.proofs.Sum.{sum-ring, sum_lt}
use Rattle.towers.proofs.Level.{size_pos, one-lt, lo-lt, hi-lt, lo_low, hi_low, lo-join, hi-join, join_high, by_halves, up_lt}
use Rattle.towers.proofs.Mul.{alpha_bit, mul-bit, talpha-lt, tmul-lt, halves}
use Rattle.towers.proofs.Ring.{zeros, one, tmul-one_l, tmul-one_r}

-- ---- values that use only the lower half

pub tmul-up : (k : ℕ) {a b : ℕ} → a < size k → b < size k → tmul (suc k) a b ≡ tmul k a b
tmul-up k {a} {b} ha hb =
    by_halves k (tmul-lt (suc k) a b) (up_lt k (tmul-lt k a b)) (simp (halves, lo_low, hi_low, tmul-lt, zeros, sum-ring))
    (simp (halves, lo_low, hi_low, tmul-lt, zeros, sum-ring))

-- ---- the generator

pub gen-lt : (k : ℕ) → gen k < size k
unfolding gen
gen-lt zero = one-lt 0
gen-lt (suc k) = pow-lt (pow-lt (le_refl (suc k)))

gen-join : (k : ℕ) → gen (suc k) ≡ join k 0 1
unfolding gen
gen-join k = sym (join_high k 1 ∙ one-mul (size k))

pub lo-gen : (k : ℕ) → lo k (gen (suc k)) ≡ 0
lo-gen k = ap (lo k) (gen-join k) ∙ lo-join k (size_pos k) 1

pub hi-gen : (k : ℕ) → hi k (gen (suc k)) ≡ 1
hi-gen k = ap (hi k) (gen-join k) ∙ hi-join k (size_pos k) (one-lt k)

pub ruleset top = (lo-gen, hi-gen)

pub talpha_is : (k a : ℕ) → talpha k a ≡ tmul k (gen k) a
unfolding gen
talpha_is zero a = simp (alpha_bit, mul-bit, one-mul)
talpha_is (suc k) a =
    by_halves k (talpha-lt (suc k) a) (tmul-lt (suc k) (gen (suc k)) a)
    (simp (halves, top, zeros, tmul-one_l, hi-lt, sum-ring)) (simp (halves, top, zeros, tmul-one_l, lo-lt, hi-lt, sum-ring))

pub talpha-one : (k : ℕ) → talpha k 1 ≡ gen k
talpha-one k = talpha_is k 1 ∙ tmul-one_r k (gen-lt k)

-- X_k² = X_(k-1) · X_k + 1
pub gen_relation : (k : ℕ) → tmul (suc k) (gen (suc k)) (gen (suc k)) ≡ tmul (suc k) (gen k) (gen (suc k)) ⊞ 1
gen_relation k =
    by_halves k (tmul-lt (suc k) (gen (suc k)) (gen (suc k))) (sum_lt (2 ^ suc k) (tmul-lt (suc k) (gen k) (gen (suc k))) (one-lt (suc k)))
    (simp (halves, top, one, zeros, lo_low, hi_low, gen-lt, tmul-one_l, one-lt, sum-ring))
    (simp (halves, top, one, zeros, lo_low, hi_low, gen-lt, tmul-one_l, tmul-one_r, one-lt, talpha-one, sum-ring))
