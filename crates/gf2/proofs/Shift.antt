-- XOR against shifts, masks and single bits; coefficients.
use mathlib.Core.Path.{◌≡◌, sym, ◌∙◌}
use Prim.Native.Nat.{ℕ, zero, suc, ◌+◌, ◌*◌, ◌/◌, ◌%◌, ◌^◌, ◌<◌, zero-le, suc-le-suc}
use native.Mathlib.Nat.{mod-lt, add-zero, one-mul, zero-mul, mul_comm, mul-div_cancel, mul-mod_left, pow-suc, pow-succ', div-div-eq-div-mul, div-one, lt_of_lt_of_le, div-lt_iff_lt-mul}
use native.Mathlib.Omega.{arith}
use lib.Arith.{lt-one}
use lib.Pow.{pow_pos, pow_mono, split}
use lib.Bits.{xor_block, xor_shifted, xor_shr, xor_self, xor_zero_r}
use lib.Dec.{lit<}
use Rattle.gf2.specs.Poly.{◌⊕◌, coef}
use Rattle.gf2.proofs.Xor.{bit_elim, bit-lt, by_half, xor-bit}

-- ---- shifts

pub xor-shl : (a b k : ℕ) → (a ⊕ b) * 2 ^ k ≡ a * 2 ^ k ⊕ b * 2 ^ k
xor-shl a b k = sym (simp add-zero at (xor_block k a b 0 0 (pow_pos k) (pow_pos k)))

pub xor_dbl : (a b : ℕ) → (a ⊕ b) * 2 ≡ a * 2 ⊕ b * 2
xor_dbl a b = xor-shl a b 1

-- a high part and k low bits
pub xor_split : (a k : ℕ) → a / 2 ^ k * 2 ^ k ⊕ a % 2 ^ k ≡ a
xor_split a k = xor_shifted (a / 2 ^ k) k (a % 2 ^ k) (mod-lt a (pow_pos k)) ∙ split a k

pub xor_digit : (a : ℕ) → a / 2 * 2 ⊕ a % 2 ≡ a
xor_digit a = xor_split a 1

pub dbl_half : (a : ℕ) → a * 2 / 2 ≡ a
dbl_half a = mul-div_cancel a (lit< tt)

pub dbl_bit : (a : ℕ) → a * 2 % 2 ≡ 0
dbl_bit a = mul-mod_left a 2

pub half_lt : {a : ℕ} (k : ℕ) → a < 2 ^ suc k → a / 2 < 2 ^ k
half_lt {a} k h = (div-lt_iff_lt-mul (lit< tt)).1 (rw pow-suc at h)

pub dbl_lt : {a : ℕ} (k : ℕ) → a < 2 ^ k → a * 2 < 2 ^ suc k
dbl_lt k h = rw pow-suc (omega arith)

pub top_lt : {a : ℕ} (k : ℕ) → a < 2 ^ suc k → a / 2 ^ k < 2
top_lt k h = (div-lt_iff_lt-mul (pow_pos k)).1 (rw (pow-suc, mul_comm) at h)

-- ---- a bit times a number

pub bit_xor : {x : ℕ} → x < 2 → (b c : ℕ) → x * (b ⊕ c) ≡ x * b ⊕ x * c
bit_xor h b c = bit_elim (λ (x : ℕ). x * (b ⊕ c) ≡ x * b ⊕ x * c) (simp zero-mul) (simp one-mul) h

pub xor_bits : {x y : ℕ} → x < 2 → y < 2 → (c : ℕ) → (x ⊕ y) * c ≡ x * c ⊕ y * c
xor_bits {x} {y} hx hy c =
    bit_elim (λ (x : ℕ). (x ⊕ y) * c ≡ x * c ⊕ y * c) (simp zero-mul)
    (bit_elim (λ (y : ℕ). (1 ⊕ y) * c ≡ 1 * c ⊕ y * c) (simp (zero-mul, xor_zero_r)) (simp (one-mul, zero-mul, xor_self)) hy) hx

pub bit-mul-lt : (k : ℕ) {x c : ℕ} → x < 2 → c < 2 ^ k → x * c < 2 ^ k
bit-mul-lt k {x} {c} hx hc = bit_elim (λ (x : ℕ). x * c < 2 ^ k) (rw zero-mul (pow_pos k)) (rw one-mul hc) hx

-- ---- coefficients

pub coef-zero : (a : ℕ) → coef a 0 ≡ a % 2
unfolding coef
coef-zero a = simp div-one

pub coef_half : (a i : ℕ) → coef (a / 2) i ≡ coef a (suc i)
unfolding coef
coef_half a i = simp (div-div-eq-div-mul, ← (pow-succ' 2 i))

pub coef-lt : (a i : ℕ) → coef a i < 2
unfolding coef
coef-lt a i = bit-lt (a / 2 ^ i)

pub coef-xor : (a b i : ℕ) → coef (a ⊕ b) i ≡ coef a i ⊕ coef b i
unfolding coef
coef-xor a b i = simp (xor_shr, xor-bit)

-- numbers of k bits are equal where their k coefficients are
pub ext_below : (k a b : ℕ) → a < 2 ^ k → b < 2 ^ k → ((i : ℕ) → i < k → coef a i ≡ coef b i) → a ≡ b
ext_below zero a b ha hb h = lt-one ha ∙ sym (lt-one hb)
ext_below (suc k) a b ha hb h =
    by_half
    (ext_below k (a / 2) (b / 2) (half_lt k ha) (half_lt k hb) (λ i l. coef_half a i ∙ h (suc i) (suc-le-suc l) ∙ sym (coef_half b i)))
    (sym (coef-zero a) ∙ h 0 (suc-le-suc zero-le) ∙ coef-zero b)

pub lt-pow : (a : ℕ) → a < 2 ^ a
lt-pow zero = lit< tt
lt-pow (suc a) = rw pow-suc (omega (arith, lt-pow a))

pub ext : (a b : ℕ) → ((i : ℕ) → coef a i ≡ coef b i) → a ≡ b
ext a b h =
    ext_below (a + b) a b (lt_of_lt_of_le (lt-pow a) (pow_mono (omega arith))) (lt_of_lt_of_le (lt-pow b) (pow_mono (omega arith))) (λ i l. h i)
