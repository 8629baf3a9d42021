-- The coefficients of a product, as in the textbooks: coefficient k of a · b is the sum of a_i · b_(k - i) for i ≤ k, over two
-- elements (`coef-cmul`), which is the parity of that sum of numbers (`coef-cmul-parity`).
use mathlib.Core.Path.{◌≡◌, refl, sym, ap, ◌∙◌}
use Prim.Native.Nat.{ℕ, zero, suc, ◌+◌, ◌-◌, ◌*◌, ◌/◌, ◌%◌, ◌<◌}
use native.Mathlib.Nat.{zero-mul, one-mul, sub-zero, suc-sub-suc, zero-div, zero-mod}
use native.Mathlib.Numerals.{sub-one}
use native.Mathlib.Omega.{arith}
use lib.Arith.{bin_ind}
use Rattle.gf2.specs.Poly.{◌⊕◌, sum, coef, xsum, cmul}
use Rattle.gf2.proofs.Xor.{bit_elim, bit-lt}
use Rattle.gf2.proofs.Shift.{coef-zero, coef_half, coef-lt, coef-xor, dbl_half, dbl_bit, bit-mul-lt}
use Rattle.gf2.proofs.Sum.{xsum-nil}
use Rattle.gf2.proofs.Cmul.{cmul-zero_l, cmul_step}

pub coef-nil : (i : ℕ) → coef 0 i ≡ 0
unfolding coef
coef-nil i = simp (zero-div, zero-mod)

pub coef_dbl : (a i : ℕ) → coef (a * 2) (suc i) ≡ coef a i
coef_dbl a i = sym (coef_half (a * 2) i) ∙ ap (λ (x : ℕ). coef x i) (dbl_half a)

pub coef_scale : {x : ℕ} → x < 2 → (b i : ℕ) → coef (x * b) i ≡ x * coef b i
coef_scale h b i = bit_elim (λ (x : ℕ). coef (x * b) i ≡ x * coef b i) (simp (zero-mul, coef-nil)) (simp one-mul) h

pub coef-cmul : (a b k : ℕ) → coef (cmul a b) k ≡ xsum (suc k) (λ i. coef a i * coef b (k - i))
unfolding xsum
coef-cmul =
    bin_ind (λ (a : ℕ). (b k : ℕ) → coef (cmul a b) k ≡ xsum (suc k) (λ i. coef a i * coef b (k - i))) nil step
  where
    nil : (b k : ℕ) → coef (cmul 0 b) k ≡ xsum (suc k) (λ i. coef 0 i * coef b (k - i))
    nil b k = simp (cmul-zero_l, coef-nil, zero-mul) (sym (xsum-nil k))

    step : (a : ℕ) → ((b k : ℕ) → coef (cmul (a / 2) b) k ≡ xsum (suc k) (λ i. coef (a / 2) i * coef b (k - i)))
        → (b k : ℕ) → coef (cmul a b) k ≡ xsum (suc k) (λ i. coef a i * coef b (k - i))
    step a ih b zero = ap (λ (x : ℕ). coef x 0) (cmul_step a b) ∙ simp (coef-xor, coef_scale (bit-lt a), coef-zero, dbl_bit)
    step a ih b (suc k) =
        ap (λ (x : ℕ). coef x (suc k)) (cmul_step a b)
        ∙ simp (coef-xor, coef_scale (bit-lt a), coef_dbl, ih b k, coef_half, coef-zero, suc-sub-suc, sub-zero, sub-one)

-- ---- the same with the sum of numbers

pub bit-sum : {x y : ℕ} → x < 2 → y < 2 → (x + y) % 2 ≡ x ⊕ y
bit-sum {x} {y} hx hy =
    bit_elim (λ (x : ℕ). (x + y) % 2 ≡ x ⊕ y) (bit_elim (λ (y : ℕ). (0 + y) % 2 ≡ 0 ⊕ y) refl refl hy)
    (bit_elim (λ (y : ℕ). (1 + y) % 2 ≡ 1 ⊕ y) refl refl hy) hx

pub xsum-parity : (k : ℕ) (f : ℕ → ℕ) → ((i : ℕ) → f i < 2) → xsum k f ≡ sum k f % 2
unfolding xsum sum
xsum-parity zero f h = refl
xsum-parity (suc k) f h =
    let rest = sum k (λ i. f (suc i)) in
    let l : f 0 < 2 = h 0 in
    let m : (f 0 + rest % 2) % 2 ≡ (f 0 + rest) % 2 = omega arith in
    ap (λ (x : ℕ). f 0 ⊕ x) (xsum-parity k (λ i. f (suc i)) (λ i. h (suc i))) ∙ sym (bit-sum l (bit-lt rest)) ∙ m

pub coef-cmul-parity : (a b k : ℕ) → coef (cmul a b) k ≡ sum (suc k) (λ i. coef a i * coef b (k - i)) % 2
coef-cmul-parity a b k =
    coef-cmul a b k ∙ xsum-parity (suc k) (λ i. coef a i * coef b (k - i)) (λ i. bit-mul-lt 1 (coef-lt a i) (coef-lt b (k - i)))
