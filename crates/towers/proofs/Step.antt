-- What code computes: the halves by shifts and masks in a word of 2^n bits, and one step of the recursion on the level.
use mathlib.Core.Path.{◌≡◌, refl, sym, ap, ◌∙◌}
use mathlib.Core.Logic.{◌≢◌}
use Prim.Native.Nat.{ℕ, zero, suc, ◌-◌, ◌*◌, ◌/◌, ◌%◌, ◌^◌, ◌≤◌, ◌<◌}
use native.Mathlib.Nat.{one-mul, zero-mul, mod-eq_of_lt, two-pow-succ}
use native.Mathlib.Omega.{arith}
use lib.Pow.{pow-lt, pow_mono, shl_exact}
use lib.Bits.{bit_and, and_mask, and_mod, xor_lt}
use Rattle.gf2.specs.Poly.{◌⊕◌}
use Rattle.towers.specs.Level.{◌⊞◌, size, lo, hi, join}
use Rattle.towers.specs.Mul.{talpha, tmul}
use Rattle.gf2.proofs.Xor.{bit_elim, bit-lt}
use Rattle.towers.proofs.Sum.{sum-ring}
use Rattle.towers.proofs.Level.{size_pos}
use Rattle.towers.proofs.Mul.{alpha_bit, mul-bit}
use Rattle.towers.proofs.Ring.{expand}

-- a half's width, as code shifts it
pub width_is : (k : ℕ) → k < 32 → 1 * 2 ^ k % 2 ^ 32 ≡ 2 ^ k
width_is k h = rw one-mul (mod-eq_of_lt (pow-lt h))

module _ (n k : ℕ) (h : k < n) where
  pub width_lt : 2 ^ k < 2 ^ n
  width_lt = pow-lt h

  module _ {s : ℕ} (e : s ≡ 2 ^ k) where
    pub size_is : 1 * 2 ^ s % size n ≡ size k
    size_is = rw (e, one-mul) (mod-eq_of_lt (pow-lt width_lt))

    pub mask_pos : 1 ≤ 1 * 2 ^ s % size n
    mask_pos = rw size_is (size_pos k)

    pub low_is : (a : ℕ) → bit_and a (1 * 2 ^ s % size n - 1) ≡ lo k a
    unfolding lo
    low_is a = rw size_is (and_mask a (2 ^ k))

    pub high_is : (a : ℕ) → lo k (a / 2 ^ s) ≡ hi k a
    unfolding lo hi
    high_is a = rw e

    pub join_is : (x y : ℕ) → y < size k → y * 2 ^ s % size n ⊕ x ≡ join k x y
    unfolding join ◌⊞◌
    join_is x y hy = rw (e, shl_exact (2 ^ k) (2 ^ k) (2 ^ n) hy (rw two-pow-succ at (pow_mono h)))

-- ---- sums of results stay within level k

pub eq-lt : {x y m : ℕ} → x ≡ y → y < m → x < m
eq-lt e h = rw e h

pub sum_fits : (k : ℕ) {x y : ℕ} → x < size k → y < size k → x ⊕ y < size k
sum_fits k {x} {y} = xor_lt (2 ^ k) x y

pub sum_fits_4 : (k : ℕ) {x y z w : ℕ} → x < size k → y < size k → z < size k → w < size k → x ⊕ y ⊕ z ⊕ w < size k
sum_fits_4 k hx hy hz hw = sum_fits k (sum_fits k (sum_fits k hx hy) hz) hw

-- ---- a single bit

bits_and : {x y : ℕ} → x < 2 → y < 2 → bit_and x y ≡ x * y
bits_and {x} {y} hx hy =
    bit_elim (λ (x : ℕ). bit_and x y ≡ x * y) (sym (zero-mul y))
    (bit_elim (λ (y : ℕ). bit_and 1 y ≡ 1 * y) refl refl hy) hx

pub alpha_bits : (a : ℕ) → bit_and a 1 ≡ talpha 0 a
alpha_bits a = and_mask a 1 ∙ sym (alpha_bit a)

pub mul_bits : (a b : ℕ) → bit_and (bit_and a b) 1 ≡ tmul 0 a b
mul_bits a b = and_mask (bit_and a b) 1 ∙ and_mod a b 1 ∙ bits_and (bit-lt a) (bit-lt b) ∙ sym (mul-bit a b)

-- ---- one step down from level l

-- Karatsuba's middle term, from one product
karatsuba : (k a b c d : ℕ) → tmul k (a ⊞ b) (c ⊞ d) ⊞ tmul k a c ⊞ tmul k b d ≡ tmul k a d ⊞ tmul k b c
karatsuba k a b c d = simp (expand, sum-ring)

below_suc : (k : ℕ) → suc k - 1 ≡ k
below_suc k = omega arith

pub alpha_step : (l a : ℕ) → l ≢ 0
    → talpha l a ≡ join (l - 1) (hi (l - 1) a) (lo (l - 1) a ⊕ talpha (l - 1) (hi (l - 1) a))
unfolding talpha ◌⊞◌
alpha_step zero a ne = absurd (ne refl)
alpha_step (suc k) a ne = rw (below_suc k)

pub mul_step : (l a b : ℕ) → l ≢ 0
    → tmul l a b
    ≡ join (l - 1)
    (tmul (l - 1) (lo (l - 1) a) (lo (l - 1) b) ⊕ tmul (l - 1) (hi (l - 1) a) (hi (l - 1) b))
    (tmul (l - 1) (lo (l - 1) a ⊕ hi (l - 1) a) (lo (l - 1) b ⊕ hi (l - 1) b)
    ⊕ tmul (l - 1) (lo (l - 1) a) (lo (l - 1) b) ⊕ tmul (l - 1) (hi (l - 1) a) (hi (l - 1) b)
    ⊕ talpha (l - 1) (tmul (l - 1) (hi (l - 1) a) (hi (l - 1) b)))
unfolding tmul ◌⊞◌
mul_step zero a b ne = absurd (ne refl)
mul_step (suc k) a b ne =
    rw (below_suc k)
    (ap (λ (m : ℕ). join k (tmul k (lo k a) (lo k b) ⊕ tmul k (hi k a) (hi k b)) (m ⊕ talpha k (tmul k (hi k a) (hi k b))))
    (sym (karatsuba k (lo k a) (hi k a) (lo k b) (hi k b))))
