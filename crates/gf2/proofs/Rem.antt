-- The remainder modulo the polynomial x^n + t, where t has degree below n: Horner's rule over the binary digits.
use mathlib.Core.Path.{◌≡◌, sym, ap, ap₂, ◌∙◌}
use Prim.Native.Nat.{ℕ, suc, ◌+◌, ◌*◌, ◌/◌, ◌%◌, ◌^◌, ◌<◌, suc-le-suc, zero-le}
use native.Mathlib.Nat.{zero-mul, one-mul, mod-lt, mod-eq_of_lt, mod_self, div_self, div-eq_of_lt, lt_of_lt_of_le, lt_of_le_of_lt, div-le_self}
use lib.Arith.{bin_ind}
use lib.Pow.{pow_pos, pow_mono}
use lib.Bits.{xor_zero_r, xor_lt, xor_shr, xor_mod, xor_shifted}
use Rattle.gf2.specs.Poly.{◌⊕◌, cmul}
use Rattle.gf2.specs.Residue.{red, rem}
use Rattle.gf2.proofs.Xor.{bit_elim, bit-lt, xor_half, xor-bit, xor_medial}
use Rattle.gf2.proofs.Shift.{xor_dbl, xor_digit, bit-mul-lt, top_lt, dbl_half, dbl_bit, dbl_lt}
use Rattle.gf2.proofs.BinRec.{bin_rec-zero, bin_rec_step}
use Rattle.gf2.proofs.Cmul.{cmul_step, cmul-zero_l, cmul-one_l, cmul-bit, cmul_comm, cmul-xor_l}

module _ (n t : ℕ) where
  pub red-xor : (a b : ℕ) → red n t (a ⊕ b) ≡ red n t a ⊕ red n t b
  unfolding red
  red-xor a b = simp (xor_shr, xor_mod, cmul-xor_l) (xor_medial (cmul (a / 2 ^ n) t) (cmul (b / 2 ^ n) t) (a % 2 ^ n) (b % 2 ^ n))

  pub red_low : {a : ℕ} → a < 2 ^ n → red n t a ≡ a
  unfolding red
  red_low h = simp (div-eq_of_lt, cmul-zero_l, mod-eq_of_lt)

  pub red_top : red n t (2 ^ n) ≡ t
  unfolding red
  red_top = simp (div_self (pow_pos n), mod_self, cmul-one_l, xor_zero_r)

  red-lt : {a : ℕ} → t < 2 ^ n → a < 2 ^ suc n → red n t a < 2 ^ n
  unfolding red
  red-lt {a} ht h =
      xor_lt n (cmul (a / 2 ^ n) t) (a % 2 ^ n) (rw (cmul-bit (top_lt n h) t) (bit-mul-lt n (top_lt n h) ht)) (mod-lt a (pow_pos n))

  -- ---- the remainder, digit by digit

  pub rem-zero : rem n t 0 ≡ 0
  unfolding rem
  rem-zero = bin_rec-zero 0 (λ d r. red n t (r * 2 + d % 2))

  pub rem_step : (a : ℕ) → rem n t a ≡ red n t (rem n t (a / 2) * 2 ⊕ a % 2)
  unfolding rem
  rem_step a =
      bin_rec_step 0 (λ d r. red n t (r * 2 + d % 2)) (sym (red_low (pow_pos n))) a
      ∙ ap (red n t) (sym (xor_shifted (rem n t (a / 2)) 1 (a % 2) (bit-lt a)))

  pub rem-xor : (a b : ℕ) → rem n t (a ⊕ b) ≡ rem n t a ⊕ rem n t b
  rem-xor =
      bin_ind (λ (a : ℕ). (b : ℕ) → rem n t (a ⊕ b) ≡ rem n t a ⊕ rem n t b) (λ b. simp rem-zero)
      (λ a ih b. rem_step (a ⊕ b)
      ∙ simp (xor_half, xor-bit, ih, xor_dbl)
      (ap (red n t) (xor_medial (rem n t (a / 2) * 2) (rem n t (b / 2) * 2) (a % 2) (b % 2))
      ∙ red-xor (rem n t (a / 2) * 2 ⊕ a % 2) (rem n t (b / 2) * 2 ⊕ b % 2)
      ∙ sym (ap₂ ◌⊕◌ (rem_step a) (rem_step b))))

  pub rem_low : (a : ℕ) → a < 2 ^ n → rem n t a ≡ a
  rem_low =
      bin_ind (λ (a : ℕ). a < 2 ^ n → rem n t a ≡ a) (λ h. rem-zero)
      (λ a ih h. rem_step a ∙ simp (ih (lt_of_le_of_lt (div-le_self a 2) h), xor_digit) (red_low h))

  pub rem_dbl : (a : ℕ) → rem n t (a * 2) ≡ red n t (rem n t a * 2)
  rem_dbl a = rem_step (a * 2) ∙ simp (dbl_half, dbl_bit, xor_zero_r)

  -- ---- t has degree below n

  module _ (ht : t < 2 ^ n) where
    pub rem_lt : (a : ℕ) → rem n t a < 2 ^ n
    rem_lt =
        bin_ind (λ (a : ℕ). rem n t a < 2 ^ n) (rw rem-zero (pow_pos n))
        (λ a ih. rw (rem_step a)
        (red-lt ht (xor_lt (suc n) _ _ (dbl_lt n ih) (lt_of_lt_of_le (bit-lt a) (pow_mono (suc-le-suc zero-le))))))

    pub rem-rem : (a : ℕ) → rem n t (rem n t a) ≡ rem n t a
    rem-rem a = rem_low (rem n t a) (rem_lt a)

    rem-bit : {x : ℕ} → x < 2 → (b : ℕ) → rem n t (x * b) ≡ x * rem n t b
    rem-bit h b = bit_elim (λ (x : ℕ). rem n t (x * b) ≡ x * rem n t b) (simp (zero-mul, rem-zero)) (simp one-mul) h

    pub rem-cmul_r : (a b : ℕ) → rem n t (cmul a (rem n t b)) ≡ rem n t (cmul a b)
    rem-cmul_r =
        bin_ind (λ (a : ℕ). (b : ℕ) → rem n t (cmul a (rem n t b)) ≡ rem n t (cmul a b)) (λ b. simp cmul-zero_l)
        (λ a ih b. ap (rem n t) (cmul_step a (rem n t b))
        ∙ simp (rem-xor, rem-bit (bit-lt a), rem_dbl, rem-rem, ih)
        (sym (ap (rem n t) (cmul_step a b) ∙ simp (rem-xor, rem-bit (bit-lt a), rem_dbl))))

    pub rem-cmul_l : (a b : ℕ) → rem n t (cmul (rem n t a) b) ≡ rem n t (cmul a b)
    rem-cmul_l a b = ap (rem n t) (cmul_comm (rem n t a) b) ∙ rem-cmul_r b a ∙ ap (rem n t) (cmul_comm b a)
