-- Words read from the other end.
use Rattle.std.proofs.Common.{◌≡◌, ℕ, zero, suc, ◌+◌, ◌-◌, ◌*◌, ◌/◌, ◌%◌, ◌^◌, ◌<◌, ◌≤◌, ◌⊎◌, sym, refl, ap, ◌∙◌, ap₂, inl, inr, le_refl, lt_of_lt_of_le, le_of_suc-le-suc, not-suc-le-zero, add-suc, mul_assoc, mul_comm, suc-add, eq-or-lt_of_le, one-mul, zero-add, zero-mul, arith, lit<, pow_mono, pow-add, pow-suc}
use native.Mathlib.Nat.{le-suc}
use lib.Arith.{lt-one}
use lib.Bits.{xor_lt, xor_shifted, xor_zero_r}
use lib.Pow.{pow-lt}
use Rattle.std.specs.Int.{reverse_bits_onto}
use Rattle.gf2.specs.Poly.{◌⊕◌, coef, cmul}
use Rattle.words.specs.Words.{rev}
use Rattle.gf2.proofs.Xor.{bit_elim, bit-lt, xor_half, xor-bit, xor_medial}
use Rattle.gf2.proofs.Shift.{coef-zero, coef_half, coef-xor, xor-shl, xor_bits, bit-mul-lt, dbl_half, dbl_bit, half_lt}
use Rattle.gf2.proofs.Cmul.{cmul-zero_l, cmul-one_l, cmul_step, cmul-xor_l, cmul_comm, cmul-pow}
use Rattle.gf2.proofs.Bits.{coef-shl, coef-shl_low, coef_high}

pub rev-xor : (n a b : ℕ) → rev n (a ⊕ b) ≡ rev n a ⊕ rev n b
unfolding rev
rev-xor zero a b = refl
rev-xor (suc n) a b =
    simp (xor_half, xor-bit, xor_bits (bit-lt a) (bit-lt b), rev-xor n (a / 2) (b / 2))
    (xor_medial (a % 2 * 2 ^ n) (b % 2 * 2 ^ n) (rev n (a / 2)) (rev n (b / 2)))

pub rev-lt : (n a : ℕ) → rev n a < 2 ^ n
unfolding rev
rev-lt zero a = lit< tt
rev-lt (suc n) a =
    xor_lt (suc n) _ _ (bit-mul-lt (suc n) (bit-lt a) (pow-lt (le_refl (suc n)))) (lt_of_lt_of_le (rev-lt n (a / 2)) (pow_mono (le-suc n)))

-- bit i of the one is bit n - 1 - i of the other
pub rev-coef : (n a i : ℕ) → i < n → coef (rev n a) i ≡ coef a (n - 1 - i)
unfolding rev
rev-coef zero a i h = absurd (not-suc-le-zero h)
rev-coef (suc n) a i h =
    coef-xor (a % 2 * 2 ^ n) (rev n (a / 2)) i ∙ go (rev-coef n (a / 2) i) (eq-or-lt_of_le (le_of_suc-le-suc h))
  where
    go : (i < n → coef (rev n (a / 2)) i ≡ coef (a / 2) (n - 1 - i)) → (i ≡ n) ⊎ (i < n)
        → coef (a % 2 * 2 ^ n) i ⊕ coef (rev n (a / 2)) i ≡ coef a (suc n - 1 - i)
    go ih (inl e) =
        let j : i ≡ n + 0 = omega arith in
        let l : n ≤ i = omega arith in
        let b : a % 2 % 2 ≡ a % 2 = omega arith in
        let k : 0 ≡ suc n - 1 - i = omega arith in
        ap₂ ◌⊕◌ (ap (coef (a % 2 * 2 ^ n)) j ∙ coef-shl (a % 2) n 0 ∙ coef-zero (a % 2) ∙ b) (coef_high n i (rev-lt n (a / 2)) l)
        ∙ xor_zero_r (a % 2) ∙ sym (coef-zero a) ∙ ap (coef a) k
    go ih (inr l) =
        let k : suc (n - 1 - i) ≡ suc n - 1 - i = omega arith in
        ap₂ ◌⊕◌ (coef-shl_low (a % 2) n i l) (ih l) ∙ coef_half a (n - 1 - i) ∙ ap (coef a) k

-- ---- the product of two reversed words is the product reversed

pub rev-zero : (n : ℕ) → rev n 0 ≡ 0
unfolding rev
rev-zero zero = refl
rev-zero (suc n) = simp (zero-mul, rev-zero n)

rev_scale : (n : ℕ) {x : ℕ} → x < 2 → (b : ℕ) → rev n (x * b) ≡ x * rev n b
rev_scale n h b = bit_elim (λ (x : ℕ). rev n (x * b) ≡ x * rev n b) (simp (zero-mul, rev-zero)) (simp one-mul) h

rev_dbl : (n a : ℕ) → rev (suc n) (a * 2) ≡ rev n a
unfolding rev
rev_dbl n a = simp (dbl_half, dbl_bit, zero-mul)

-- zeros above come out below
rev_above : (k n b : ℕ) → b < 2 ^ n → rev (k + n) b ≡ rev n b * 2 ^ k
unfolding rev
rev_above k zero b h = ap (rev (k + 0)) (lt-one h) ∙ rev-zero (k + 0) ∙ sym (zero-mul (2 ^ k))
rev_above k (suc n) b h =
    ap (λ (x : ℕ). rev x b) (add-suc k n)
    ∙ ap₂ ◌⊕◌ (ap (λ (x : ℕ). b % 2 * x) (pow-add 2 k n ∙ mul_comm (2 ^ k) (2 ^ n)) ∙ sym (mul_assoc (b % 2) (2 ^ n) (2 ^ k)))
    (rev_above k n (b / 2) (half_lt n h))
    ∙ sym (xor-shl (b % 2 * 2 ^ n) (rev n (b / 2)) k)

cmul_top : (k : ℕ) {x : ℕ} → x < 2 → (b : ℕ) → cmul (x * 2 ^ k) b ≡ x * (b * 2 ^ k)
cmul_top k h b =
    bit_elim (λ (x : ℕ). cmul (x * 2 ^ k) b ≡ x * (b * 2 ^ k)) (simp (zero-mul, cmul-zero_l))
    (simp one-mul (cmul_comm (2 ^ k) b ∙ cmul-pow b k)) h

pub rev-cmul : (m n a b : ℕ) → a < 2 ^ suc m → b < 2 ^ suc n
    → cmul (rev (suc m) a) (rev (suc n) b) ≡ rev (suc (m + n)) (cmul a b)
unfolding rev
rev-cmul zero n a b ha hb =
    bit_elim (λ (a : ℕ). cmul (rev 1 a) (rev (suc n) b) ≡ rev (suc (0 + n)) (cmul a b))
    (cmul-zero_l (rev (suc n) b) ∙ sym (ap (rev (suc (0 + n))) (cmul-zero_l b) ∙ rev-zero (suc (0 + n))))
    (cmul-one_l (rev (suc n) b) ∙ ap₂ rev (ap suc (sym (zero-add n))) (sym (cmul-one_l b))) ha
rev-cmul (suc m) n a b ha hb =
    cmul-xor_l (a % 2 * 2 ^ suc m) (rev (suc m) (a / 2)) (rev (suc n) b)
    ∙ ap₂ ◌⊕◌
    (cmul_top (suc m) (bit-lt a) (rev (suc n) b)
    ∙ ap (λ (x : ℕ). a % 2 * x) (sym (ap (λ (k : ℕ). rev k b) (sym (add-suc (suc m) n)) ∙ rev_above (suc m) (suc n) b hb))
    ∙ sym (rev_scale (suc (suc m + n)) (bit-lt a) b))
    (rev-cmul m n (a / 2) b (half_lt (suc m) ha) hb
    ∙ sym (ap (λ (k : ℕ). rev (suc k) (cmul (a / 2) b * 2)) (suc-add m n) ∙ rev_dbl (suc (m + n)) (cmul (a / 2) b)))
    ∙ sym (ap (rev (suc (suc m + n))) (cmul_step a b) ∙ rev-xor (suc (suc m + n)) (a % 2 * b) (cmul (a / 2) b * 2))

-- ---- std's reversal: the lowest bit first, each below those before it

onto-rev : (n a b : ℕ) → reverse_bits_onto n a b ≡ b * 2 ^ n + rev n a
unfolding rev reverse_bits_onto
onto-rev zero a b = omega arith
onto-rev (suc n) a b =
    onto-rev n (a / 2) (b * 2 + a % 2) ∙ turn (rev n (a / 2))
    ∙ ap (λ (x : ℕ). b * 2 ^ suc n + x) (sym (xor_shifted (a % 2) n (rev n (a / 2)) (rev-lt n (a / 2))))
  where
    turn : (x : ℕ) → (b * 2 + a % 2) * 2 ^ n + x ≡ b * 2 ^ suc n + (a % 2 * 2 ^ n + x)
    turn x = grind (arith, pow-suc)

pub reverse_bits-rev : (n a : ℕ) → reverse_bits_onto n a 0 ≡ rev n a
reverse_bits-rev n a = onto-rev n a 0 ∙ omega arith
