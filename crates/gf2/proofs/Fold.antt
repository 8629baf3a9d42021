-- What code computes: products by blocks, and reduction by folding.
use mathlib.Core.Path.{◌≡◌, sym, ap, ◌∙◌}
use Prim.Native.Nat.{ℕ, suc, ◌+◌, ◌*◌, ◌/◌, ◌%◌, ◌^◌, ◌≤◌, ◌<◌}
use native.Mathlib.Nat.{mul_assoc, mod-lt, lt_of_lt_of_le}
use lib.Pow.{pow-add, pow_pos, pow_mono, shr_lt}
use lib.Bits.{xor_lt}
use Rattle.gf2.specs.Poly.{◌⊕◌, cmul}
use Rattle.gf2.specs.Residue.{red, rem}
use Rattle.gf2.proofs.Xor.{xor_assoc, xor-ring}
use Rattle.gf2.proofs.Shift.{xor-shl, xor_split}
use Rattle.gf2.proofs.Cmul.{cmul_comm, cmul-xor_l, cmul-xor_r, cmul-pow, cmul-pow_r, cmul-lt}
use Rattle.gf2.proofs.Rem.{rem-xor, rem_low, rem-cmul_r}
use Rattle.gf2.proofs.Quo.{rem_top}

pub cmul-pow_l : (a b k : ℕ) → cmul (a * 2 ^ k) b ≡ cmul a b * 2 ^ k
cmul-pow_l a b k = cmul_comm (a * 2 ^ k) b ∙ cmul-pow_r b a k ∙ ap (λ (x : ℕ). x * 2 ^ k) (cmul_comm b a)

-- four products of halves
pub cmul_blocks : (k a b c d : ℕ)
    → cmul (a * 2 ^ k ⊕ b) (c * 2 ^ k ⊕ d) ≡ cmul a c * 2 ^ (k + k) ⊕ (cmul a d ⊕ cmul b c) * 2 ^ k ⊕ cmul b d
cmul_blocks k a b c d = simp (cmul-xor_l, cmul-xor_r, cmul-pow_l, cmul-pow_r, xor-shl, pow-add, mul_assoc, xor_assoc)

-- Karatsuba's middle term, from one product
pub karatsuba : (a b c d : ℕ) → cmul (a ⊕ b) (c ⊕ d) ⊕ cmul a c ⊕ cmul b d ≡ cmul a d ⊕ cmul b c
karatsuba a b c d = simp (cmul-xor_l, cmul-xor_r, xor-ring)

-- the part above x^n, times t, is added to the part below
pub rem-fold : (n t : ℕ) → t < 2 ^ n → (hi lo : ℕ) → rem n t (hi * 2 ^ n ⊕ lo) ≡ rem n t (cmul hi t ⊕ lo)
rem-fold n t ht hi lo =
    rem-xor n t (hi * 2 ^ n) lo
    ∙ ap (λ (x : ℕ). x ⊕ rem n t lo)
    (ap (rem n t) (sym (cmul-pow hi n)) ∙ sym (rem-cmul_r n t ht hi (2 ^ n)) ∙ ap (λ (x : ℕ). rem n t (cmul hi x)) (rem_top n t ht))
    ∙ sym (rem-xor n t (cmul hi t) lo)

-- ---- reduction by folding: `red` keeps the remainder, and folding twice gives it where the result is below x^n

pub rem-red : (n t : ℕ) → t < 2 ^ n → (a : ℕ) → rem n t (red n t a) ≡ rem n t a
unfolding red
rem-red n t ht a = sym (rem-fold n t ht (a / 2 ^ n) (a % 2 ^ n)) ∙ ap (rem n t) (xor_split a n)

pub rem-fold_twice : (n t : ℕ) → t < 2 ^ n → (a : ℕ) → red n t (red n t a) < 2 ^ n → rem n t a ≡ red n t (red n t a)
rem-fold_twice n t ht a h =
    sym (rem-red n t ht a) ∙ sym (rem-red n t ht (red n t a)) ∙ rem_low n t (red n t (red n t a)) h

-- a fold takes m + 1 bits above x^n down to m + d + 1 bits, for t of d + 1 bits
pub red-size : (n t m d k : ℕ) → t < 2 ^ suc d → suc (m + d) ≤ k → n ≤ k → (a : ℕ) → a < 2 ^ (suc m + n) → red n t a < 2 ^ k
unfolding red
red-size n t m d k ht hk hn a h =
    xor_lt k (cmul (a / 2 ^ n) t) (a % 2 ^ n) (lt_of_lt_of_le (cmul-lt m d (shr_lt (suc m) n h) ht) (pow_mono hk))
    (lt_of_lt_of_le (mod-lt a (pow_pos n)) (pow_mono hn))
