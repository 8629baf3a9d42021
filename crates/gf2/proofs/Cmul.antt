-- The product of polynomials over GF(2), on all numbers.
use mathlib.Core.Path.{◌≡◌, sym, ap, ap₂, ◌∙◌}
use Prim.Native.Nat.{ℕ, zero, suc, ◌+◌, ◌*◌, ◌/◌, ◌%◌, ◌^◌, ◌<◌}
use native.Mathlib.Nat.{zero-mul, mul-zero, one-mul, mul-one, mul_assoc, pow-suc, zero-add, suc-add, lt_of_lt_of_le}
use native.Mathlib.Omega.{arith}
use lib.Arith.{bin_ind}
use lib.Pow.{pow_mono}
use lib.Bits.{xor_zero_r, xor_comm, xor_lt}
use lib.Dec.{lit<}
use Rattle.gf2.specs.Poly.{◌⊕◌, cmul}
use Rattle.gf2.proofs.Xor.{bit_elim, bit-lt, xor_half, xor-bit, xor_medial, xor-ring}
use Rattle.gf2.proofs.Shift.{xor_dbl, xor_digit, bit_xor, xor_bits, bit-mul-lt, dbl_half, dbl_bit, half_lt, dbl_lt}
use Rattle.gf2.proofs.BinRec.{bin_rec-zero, bin_rec_step}

pub cmul_step : (a b : ℕ) → cmul a b ≡ a % 2 * b ⊕ cmul (a / 2) b * 2
unfolding cmul
cmul_step a b = bin_rec_step 0 (λ d r. d % 2 * b ⊕ r * 2) (sym (simp zero-mul)) a

pub cmul-zero_l : (b : ℕ) → cmul 0 b ≡ 0
unfolding cmul
cmul-zero_l b = bin_rec-zero 0 (λ d r. d % 2 * b ⊕ r * 2)

pub cmul-zero_r : (a : ℕ) → cmul a 0 ≡ 0
cmul-zero_r = bin_ind (λ (a : ℕ). cmul a 0 ≡ 0) (cmul-zero_l 0) (λ a ih. cmul_step a 0 ∙ simp (ih, mul-zero))

-- a single digit
pub cmul-bit : {x : ℕ} → x < 2 → (b : ℕ) → cmul x b ≡ x * b
cmul-bit h b =
    bit_elim (λ (x : ℕ). cmul x b ≡ x * b) (cmul-zero_l b ∙ sym (zero-mul b)) (cmul_step 1 b ∙ simp (cmul-zero_l, xor_zero_r)) h

pub cmul-one_l : (b : ℕ) → cmul 1 b ≡ b
cmul-one_l b = cmul-bit (lit< tt) b ∙ one-mul b

pub cmul-one_r : (a : ℕ) → cmul a 1 ≡ a
cmul-one_r =
    bin_ind (λ (a : ℕ). cmul a 1 ≡ a) (cmul-zero_l 1) (λ a ih. cmul_step a 1 ∙ simp (ih, mul-one) (xor_comm (a % 2) (a / 2 * 2) ∙ xor_digit a))

-- ---- distributivity

pub cmul-xor_r : (a b c : ℕ) → cmul a (b ⊕ c) ≡ cmul a b ⊕ cmul a c
cmul-xor_r =
    bin_ind (λ (a : ℕ). (b c : ℕ) → cmul a (b ⊕ c) ≡ cmul a b ⊕ cmul a c) (λ b c. simp cmul-zero_l)
    (λ a ih b c. cmul_step a (b ⊕ c)
    ∙ simp (bit_xor (bit-lt a), ih, xor_dbl) (xor_medial (a % 2 * b) (a % 2 * c) (cmul (a / 2) b * 2) (cmul (a / 2) c * 2))
    ∙ sym (ap₂ ◌⊕◌ (cmul_step a b) (cmul_step a c)))

pub cmul-xor_l : (a b c : ℕ) → cmul (a ⊕ b) c ≡ cmul a c ⊕ cmul b c
cmul-xor_l =
    bin_ind (λ (a : ℕ). (b c : ℕ) → cmul (a ⊕ b) c ≡ cmul a c ⊕ cmul b c) (λ b c. simp cmul-zero_l)
    (λ a ih b c. cmul_step (a ⊕ b) c
    ∙ simp (xor_half, xor-bit, xor_bits (bit-lt a) (bit-lt b), ih, xor_dbl)
    (xor_medial (a % 2 * c) (b % 2 * c) (cmul (a / 2) c * 2) (cmul (b / 2) c * 2))
    ∙ sym (ap₂ ◌⊕◌ (cmul_step a c) (cmul_step b c)))

-- ---- times x

pub cmul_dbl_l : (a b : ℕ) → cmul (a * 2) b ≡ cmul a b * 2
cmul_dbl_l a b = cmul_step (a * 2) b ∙ simp (dbl_half, dbl_bit, zero-mul)

pub cmul_dbl_r : (a b : ℕ) → cmul a (b * 2) ≡ cmul a b * 2
cmul_dbl_r =
    bin_ind (λ (a : ℕ). (b : ℕ) → cmul a (b * 2) ≡ cmul a b * 2) (λ b. simp cmul-zero_l)
    (λ a ih b. cmul_step a (b * 2) ∙ simp (ih, ← mul_assoc, ← xor_dbl) (ap (λ (x : ℕ). x * 2) (sym (cmul_step a b))))

-- ---- the ring laws

cmul-bit_r : (a : ℕ) {x : ℕ} → x < 2 → cmul a x ≡ x * a
cmul-bit_r a h =
    bit_elim (λ (x : ℕ). cmul a x ≡ x * a) (cmul-zero_r a ∙ sym (zero-mul a)) (cmul-one_r a ∙ sym (one-mul a)) h

pub cmul_step_r : (a b : ℕ) → cmul a b ≡ b % 2 * a ⊕ cmul a (b / 2) * 2
cmul_step_r a b =
    ap (cmul a) (sym (xor_digit b)) ∙ cmul-xor_r a (b / 2 * 2) (b % 2) ∙ xor_comm (cmul a (b / 2 * 2)) (cmul a (b % 2))
    ∙ ap₂ ◌⊕◌ (cmul-bit_r a (bit-lt b)) (cmul_dbl_r a (b / 2))

pub cmul_comm : (a b : ℕ) → cmul a b ≡ cmul b a
cmul_comm =
    bin_ind (λ (a : ℕ). (b : ℕ) → cmul a b ≡ cmul b a) (λ b. cmul-zero_l b ∙ sym (cmul-zero_r b))
    (λ a ih b. cmul_step a b ∙ ap (λ (x : ℕ). a % 2 * b ⊕ x * 2) (ih b) ∙ sym (cmul_step_r b a))

cmul_scale : {x : ℕ} → x < 2 → (b c : ℕ) → cmul (x * b) c ≡ x * cmul b c
cmul_scale h b c = bit_elim (λ (x : ℕ). cmul (x * b) c ≡ x * cmul b c) (simp (zero-mul, cmul-zero_l)) (simp one-mul) h

pub cmul_assoc : (a b c : ℕ) → cmul (cmul a b) c ≡ cmul a (cmul b c)
cmul_assoc =
    bin_ind (λ (a : ℕ). (b c : ℕ) → cmul (cmul a b) c ≡ cmul a (cmul b c)) (λ b c. simp cmul-zero_l)
    (λ a ih b c. ap (λ (x : ℕ). cmul x c) (cmul_step a b)
    ∙ simp (cmul-xor_l, cmul_dbl_l, cmul_scale (bit-lt a), ih) (sym (cmul_step a (cmul b c))))

-- times x^k
pub cmul-pow_r : (a b k : ℕ) → cmul a (b * 2 ^ k) ≡ cmul a b * 2 ^ k
cmul-pow_r a b zero = simp mul-one
cmul-pow_r a b (suc k) = simp (pow-suc, ← mul_assoc, cmul_dbl_r, cmul-pow_r a b k)

pub cmul-pow : (a k : ℕ) → cmul a (2 ^ k) ≡ a * 2 ^ k
cmul-pow a k = ap (cmul a) (sym (one-mul (2 ^ k))) ∙ cmul-pow_r a 1 k ∙ simp cmul-one_r

-- squaring is additive
pub cmul_square : (a b : ℕ) → cmul (a ⊕ b) (a ⊕ b) ≡ cmul a a ⊕ cmul b b
cmul_square a b = simp (cmul-xor_l, cmul-xor_r, cmul_comm b a, xor-ring)

-- ---- size: degrees below m + 1 and n + 1 give a degree below m + n + 1

pub cmul-lt : (m n : ℕ) {a b : ℕ} → a < 2 ^ suc m → b < 2 ^ suc n → cmul a b < 2 ^ suc (m + n)
cmul-lt zero n {a} {b} ha hb = rw (cmul-bit ha b, zero-add n) (bit-mul-lt (suc n) ha hb)
cmul-lt (suc m) n {a} {b} ha hb =
    rw (cmul_step a b, suc-add m n)
    (xor_lt (suc (suc (m + n))) _ _
    (bit-mul-lt (suc (suc (m + n))) (bit-lt a) (lt_of_lt_of_le hb (pow_mono (omega arith))))
    (dbl_lt (suc (m + n)) (cmul-lt m n (half_lt (suc m) ha) hb)))
