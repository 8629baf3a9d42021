-- What code computes where one word holds the whole product: the product by a loop over the bits of a factor, and the
-- remainder by two folds of the part above x^n. Over the width and the polynomial.
use mathlib.Core.Path.{◌≡◌, sym, ap, ap₂, ◌∙◌}
use Prim.Native.Nat.{ℕ, ◌+◌, ◌*◌, ◌/◌, ◌%◌, ◌^◌, ◌<◌}
use native.Mathlib.Nat.{mod-lt, mod-mod, mod-eq_of_lt, div-eq_of_lt, mul_comm, mul_assoc}
use native.Mathlib.Omega.{arith}
use lib.Pow.{pow_pos, mod-pow-add}
use lib.Bits.{xor_comm, xor_shifted, xor_shr, xor_mod}
use Rattle.gf2.specs.Poly.{◌⊕◌, cmul}
use Rattle.gf2.specs.Residue.{red, rem}
use Rattle.gf2.proofs.Xor.{xor-ring, bit-lt}
use Rattle.gf2.proofs.Cmul.{cmul_comm, cmul-bit, cmul-zero_r, cmul-xor_r, cmul-pow_r}
use Rattle.gf2.proofs.Fold.{rem-fold_twice}

-- ---- the product, a bit of b each turn: after i turns it is the product by the i lowest bits

-- the i + 1 lowest bits
low_next : (b i : ℕ) → b % 2 ^ (i + 1) ≡ b / 2 ^ i % 2 * 2 ^ i ⊕ b % 2 ^ i
low_next b i =
    ap (λ (k : ℕ). b % 2 ^ k) (omega arith) ∙ mod-pow-add b 1 i ∙ sym (xor_shifted (b / 2 ^ i % 2) i (b % 2 ^ i) (mod-lt b (pow_pos i)))

pub cmul_none : (a b : ℕ) → 0 ≡ cmul a (b % 2 ^ 0)
cmul_none a b = sym (ap (cmul a) (omega arith) ∙ cmul-zero_r a)

pub cmul_turn : (a b i : ℕ) {s x : ℕ} → s ≡ cmul a (b % 2 ^ i) → x ≡ a * 2 ^ i * (b / 2 ^ i % 2) → s ⊕ x ≡ cmul a (b % 2 ^ (i + 1))
cmul_turn a b i p q =
    ap₂ ◌⊕◌ p (q ∙ mul_comm (a * 2 ^ i) (b / 2 ^ i % 2) ∙ sym (mul_assoc (b / 2 ^ i % 2) a (2 ^ i))) ∙ xor_comm (cmul a (b % 2 ^ i)) (b / 2 ^ i % 2 * a * 2 ^ i)
    ∙ sym
    (ap (cmul a) (low_next b i) ∙ cmul-xor_r a (b / 2 ^ i % 2 * 2 ^ i) (b % 2 ^ i)
    ∙ ap (λ (x : ℕ). x ⊕ cmul a (b % 2 ^ i))
    (cmul-pow_r a (b / 2 ^ i % 2) i ∙ ap (λ (x : ℕ). x * 2 ^ i) (cmul_comm a (b / 2 ^ i % 2) ∙ cmul-bit (bit-lt (b / 2 ^ i)) a)))

-- ---- the remainder: what stands above x^n, times t, and once more what that pushed above x^n

pub two_folds : (n t : ℕ) → t < 2 ^ n → (p : ℕ) → red n t (red n t p) < 2 ^ n
    → (p ⊕ cmul (p / 2 ^ n) t ⊕ cmul (cmul (p / 2 ^ n) t / 2 ^ n) t) % 2 ^ n ≡ rem n t p
unfolding red
two_folds n t ht p h =
    simp (xor_mod, xor-ring)
    (sym (rem-fold_twice n t ht p h ∙ sym (mod-eq_of_lt h) ∙ simp (xor_shr, div-eq_of_lt (mod-lt p (pow_pos n)), xor_mod, mod-mod, xor-ring)))
