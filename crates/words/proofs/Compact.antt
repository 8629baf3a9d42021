-- Every second bit of a number, side by side: what undoes spreading. A number is its even and its odd coefficients.
use Rattle.std.proofs.Common.{◌≡◌, ℕ, zero, suc, ◌+◌, ◌*◌, ◌/◌, ◌%◌, ◌^◌, ◌<◌, sym, ap, ◌∙◌, ap₂, lt_of_le_of_lt, div-le_self, add-one, arith, lit<}
use native.Mathlib.Decide.{dec_lt}
use lib.Bits.{xor_zero_r}
use Rattle.gf2.specs.Poly.{◌⊕◌, coef, spread}
use Rattle.gf2.specs.Bits.{poly}
use Rattle.gf2.proofs.Shift.{coef_half, coef-lt, coef-xor, ext, xor_bits}
use Rattle.gf2.proofs.Sum.{xsum_below, xsum-xor}
use Rattle.gf2.proofs.Bits.{poly-lt, coef-poly, coef-shl, coef-shl_low, coef_high}
use Rattle.gf2.proofs.Spread.{spread-lt, coef-spread_even, coef-spread_odd}
use Rattle.words.specs.Words.{compact}

-- ---- the first n coefficients of even degree

abbrev pub evens : ℕ → ℕ → ℕ
evens n a = poly n (λ i. coef a (2 * i))

pub evens-lt : (n a : ℕ) → evens n a < 2 ^ n
evens-lt n a = poly-lt n (λ i. coef a (2 * i)) (λ i. coef-lt a (2 * i))

pub evens-xor : (n a b : ℕ) → evens n (a ⊕ b) ≡ evens n a ⊕ evens n b
unfolding poly
evens-xor n a b =
    xsum_below n (λ i l. ap (λ (x : ℕ). x * 2 ^ i) (coef-xor a b (2 * i)) ∙ xor_bits (coef-lt a (2 * i)) (coef-lt b (2 * i)) (2 ^ i))
    ∙ xsum-xor n (λ i. coef a (2 * i) * 2 ^ i) (λ i. coef b (2 * i) * 2 ^ i)

-- of a number of 2n bits these are all
pub coef-evens : (n a : ℕ) → a < 2 ^ (n + n) → (i : ℕ) → coef (evens n a) i ≡ coef a (2 * i)
coef-evens n a h i = go (dec_lt i n)
  where
    go : Dec (i < n) → coef (evens n a) i ≡ coef a (2 * i)
    go (yes l) = coef-poly n (λ i. coef a (2 * i)) (λ i. coef-lt a (2 * i)) i l
    go (no f) = coef_high n i (evens-lt n a) (omega arith) ∙ sym (coef_high (n + n) (2 * i) h (omega arith))

pub evens-spread : (n a : ℕ) → a < 2 ^ n → evens n (spread a) ≡ a
evens-spread n a h = ext (evens n (spread a)) a (λ i. coef-evens n (spread a) (spread-lt n h) i ∙ coef-spread_even a i)

-- ---- the even coefficients, and x times the odd ones

by_parity : (P : ℕ → Type 0) → ((k : ℕ) → P (2 * k)) → ((k : ℕ) → P (2 * k + 1)) → (i : ℕ) → P i
by_parity P p q i = go (dec_lt (i % 2) 1)
  where
    go : Dec (i % 2 < 1) → P i
    go (yes l) = let e : i ≡ 2 * (i / 2) = omega arith in rw e (p (i / 2))
    go (no f) = let e : i ≡ 2 * (i / 2) + 1 = omega arith in rw e (q (i / 2))

-- x times a spread number: zeros at the even places, its coefficients at the odd ones
odd_even : (o k : ℕ) → coef (spread o * 2) (2 * k) ≡ 0
odd_even o zero = coef-shl_low (spread o) 1 0 (lit< tt)
odd_even o (suc k) =
    let e : 2 * suc k ≡ 1 + (2 * k + 1) = omega arith in
    ap (coef (spread o * 2)) e ∙ coef-shl (spread o) 1 (2 * k + 1) ∙ coef-spread_odd o k

odd_odd : (o k : ℕ) → coef (spread o * 2) (2 * k + 1) ≡ coef o k
odd_odd o k =
    let e : 2 * k + 1 ≡ 1 + 2 * k = omega arith in
    ap (coef (spread o * 2)) e ∙ coef-shl (spread o) 1 (2 * k) ∙ coef-spread_even o k

pub even_odd : (n a : ℕ) → a < 2 ^ (n + n) → a ≡ spread (evens n a) ⊕ spread (evens n (a / 2)) * 2
even_odd n a h =
    sym (ext (spread e ⊕ spread o * 2) a (λ i. coef-xor (spread e) (spread o * 2) i ∙ at i))
  where
    e : ℕ
    e = evens n a

    o : ℕ
    o = evens n (a / 2)

    at : (i : ℕ) → coef (spread e) i ⊕ coef (spread o * 2) i ≡ coef a i
    at =
        by_parity (λ (i : ℕ). coef (spread e) i ⊕ coef (spread o * 2) i ≡ coef a i)
        (λ k. ap₂ ◌⊕◌ (coef-spread_even e k ∙ coef-evens n a h k) (odd_even o k) ∙ xor_zero_r (coef a (2 * k)))
        (λ k. ap₂ ◌⊕◌ (coef-spread_odd e k) (odd_odd o k ∙ coef-evens n (a / 2) (lt_of_le_of_lt (div-le_self a 2) h) k)
        ∙ coef_half a (2 * k) ∙ ap (coef a) (sym (add-one (2 * k))))

-- ---- at 64 bits

pub compact-lt : (a : ℕ) → compact a < 2 ^ 32
unfolding compact
compact-lt = evens-lt 32

pub compact-xor : (a b : ℕ) → compact (a ⊕ b) ≡ compact a ⊕ compact b
unfolding compact
compact-xor = evens-xor 32

pub coef-compact : (a : ℕ) → a < 2 ^ 64 → (i : ℕ) → coef (compact a) i ≡ coef a (2 * i)
unfolding compact
coef-compact = coef-evens 32

pub compact-spread : (a : ℕ) → a < 2 ^ 32 → compact (spread a) ≡ a
unfolding compact
compact-spread = evens-spread 32

pub compact-parts : (a : ℕ) → a < 2 ^ 64 → a ≡ spread (compact a) ⊕ spread (compact (a / 2)) * 2
unfolding compact
compact-parts = even_odd 32
