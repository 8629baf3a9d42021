-- The modulus x^n + t as a polynomial: `rem n t a` is the one remainder of a by it.
use mathlib.Core.Path.{◌≡◌, sym, ap, ◌∙◌}
use Prim.Native.Nat.{ℕ, zero, suc, ◌*◌, ◌/◌, ◌%◌, ◌^◌, ◌<◌}
use native.Mathlib.Nat.{one-mul, pow-suc, le_refl}
use lib.Arith.{bin_ind, lt-one}
use lib.Pow.{pow-lt}
use lib.Bits.{xor_shifted, xor_self}
use Rattle.gf2.specs.Poly.{◌⊕◌, cmul}
use Rattle.gf2.specs.Residue.{red, rem, modulus, Remainder}
use Rattle.gf2.proofs.Xor.{xor_assoc, xor_cancel}
use Rattle.gf2.proofs.Shift.{xor_dbl, xor_digit, xor_split}
use Rattle.gf2.proofs.Cmul.{cmul-zero_l, cmul-zero_r, cmul-xor_l, cmul-xor_r, cmul_dbl_l, cmul-pow}
use Rattle.gf2.proofs.Rem.{red_top, rem-zero, rem_step, rem-xor, rem_low, rem_dbl, rem_lt, rem-cmul_r}

-- x^n leaves t
pub rem_top : (n t : ℕ) → t < 2 ^ n → rem n t (2 ^ n) ≡ t
rem_top zero t ht = lt-one (rem_lt 0 t ht 1) ∙ sym (lt-one ht)
rem_top (suc m) t ht =
    ap (rem (suc m) t) (pow-suc 2 m) ∙ rem_dbl (suc m) t (2 ^ m)
    ∙ ap (λ (x : ℕ). red (suc m) t (x * 2)) (rem_low (suc m) t (2 ^ m) (pow-lt (le_refl (suc m))))
    ∙ ap (red (suc m) t) (sym (pow-suc 2 m)) ∙ red_top (suc m) t

module _ (n t : ℕ) (ht : t < 2 ^ n) where
  pub modulus-xor : modulus n t ≡ 2 ^ n ⊕ t
  unfolding modulus
  modulus-xor = sym (simp one-mul at (xor_shifted 1 n t ht))

  pub rem-modulus : rem n t (modulus n t) ≡ 0
  rem-modulus = simp (modulus-xor, rem-xor, rem_top n t ht, rem_low n t t ht) (xor_self t)

  pub rem_multiple : (q : ℕ) → rem n t (cmul q (modulus n t)) ≡ 0
  rem_multiple q = sym (rem-cmul_r n t ht q (modulus n t)) ∙ simp (rem-modulus, cmul-zero_r, rem-zero)

  -- ---- there is a quotient

  red_quo : (a : ℕ) → cmul (a / 2 ^ n) (modulus n t) ⊕ red n t a ≡ a
  unfolding red
  red_quo a = simp (modulus-xor, cmul-xor_r, cmul-pow, xor_assoc, xor_cancel) (xor_split a n)

  quo_step : (a q : ℕ) → a / 2 ≡ cmul q (modulus n t) ⊕ rem n t (a / 2)
      → a ≡ cmul (q * 2 ⊕ (rem n t (a / 2) * 2 ⊕ a % 2) / 2 ^ n) (modulus n t) ⊕ rem n t a
  quo_step a q e = sym
      (simp (cmul-xor_l, cmul_dbl_l, rem_step n t a, xor_assoc, red_quo (rem n t (a / 2) * 2 ⊕ a % 2))
      (simp (← xor_assoc, ← xor_dbl, ← e) (xor_digit a)))

  pub rem_quo : (a : ℕ) → (q : ℕ) × (a ≡ cmul q (modulus n t) ⊕ rem n t a)
  rem_quo =
      bin_ind (λ (a : ℕ). (q : ℕ) × (a ≡ cmul q (modulus n t) ⊕ rem n t a)) (0, sym (simp (cmul-zero_l, rem-zero)))
      (λ a ih. (ih.0 * 2 ⊕ (rem n t (a / 2) * 2 ⊕ a % 2) / 2 ^ n, quo_step a ih.0 ih.1))

  -- the remainder is the only one
  pub rem_unique : (q r : ℕ) → r < 2 ^ n → rem n t (cmul q (modulus n t) ⊕ r) ≡ r
  rem_unique q r h = simp (rem-xor, rem_multiple) (rem_low n t r h)

  pub rem_is : (a : ℕ) → Remainder n t a (rem n t a)
  rem_is a = record { below = rem_lt n t ht a; quotient = (rem_quo a).0; differs = (rem_quo a).1 }

  pub rem_only : (a r : ℕ) → Remainder n t a r → r ≡ rem n t a
  rem_only a r m = sym (ap (rem n t) m.differs ∙ rem_unique m.quotient r m.below)
