-- Spreading the coefficients two apart: it keeps sums, shifts twice as far, and bit i stands at bit 2i between zeros.
use mathlib.Core.Path.{◌≡◌, sym, ap, ap₂, ◌∙◌}
use Prim.Native.Nat.{ℕ, zero, suc, ◌+◌, ◌*◌, ◌/◌, ◌%◌, ◌^◌, ◌<◌}
use native.Mathlib.Nat.{mul_assoc, lt_of_lt_of_le}
use native.Mathlib.Omega.{arith}
use lib.Arith.{lt-one}
use lib.Bits.{xor_zero_r}
use lib.Pow.{pow-add, pow_mono}
use lib.Dec.{lit<}
use Rattle.gf2.specs.Poly.{◌⊕◌, coef, spread}
use Rattle.gf2.proofs.Xor.{bit-lt}
use Rattle.gf2.proofs.Shift.{coef-zero, coef_half, coef-xor, xor_split}
use Rattle.gf2.proofs.Cmul.{cmul_comm, cmul-pow_r, cmul_square, cmul-lt}
use Rattle.gf2.proofs.Bits.{coef-shl, coef-shl_low, coef_high}
use Rattle.gf2.proofs.Square.{spread-zero, spread_step, square_spread}

pub spread-xor : (a b : ℕ) → spread (a ⊕ b) ≡ spread a ⊕ spread b
spread-xor a b = sym (square_spread (a ⊕ b)) ∙ cmul_square a b ∙ ap₂ ◌⊕◌ (square_spread a) (square_spread b)

pub spread-shl : (a k : ℕ) → spread (a * 2 ^ k) ≡ spread a * 2 ^ (k + k)
spread-shl a k =
    sym (square_spread (a * 2 ^ k)) ∙ cmul-pow_r (a * 2 ^ k) a k
    ∙ ap (λ (x : ℕ). x * 2 ^ k) (cmul_comm (a * 2 ^ k) a ∙ cmul-pow_r a a k ∙ ap (λ (x : ℕ). x * 2 ^ k) (square_spread a))
    ∙ mul_assoc (spread a) (2 ^ k) (2 ^ k) ∙ ap (λ (x : ℕ). spread a * x) (sym (pow-add 2 k k))

-- a high part and k low bits
pub spread_split : (a k : ℕ) → spread a ≡ spread (a / 2 ^ k) * 2 ^ (k + k) ⊕ spread (a % 2 ^ k)
spread_split a k =
    ap spread (sym (xor_split a k)) ∙ spread-xor (a / 2 ^ k * 2 ^ k) (a % 2 ^ k)
    ∙ ap (λ (x : ℕ). x ⊕ spread (a % 2 ^ k)) (spread-shl (a / 2 ^ k) k)

pub spread-lt : (n : ℕ) {a : ℕ} → a < 2 ^ n → spread a < 2 ^ (n + n)
spread-lt zero h = rw (lt-one h, spread-zero) (lit< tt)
spread-lt (suc n) {a} h = rw (← (square_spread a)) (lt_of_lt_of_le (cmul-lt n n h h) (pow_mono (omega arith)))

-- ---- its coefficients

pub coef-spread_even : (a i : ℕ) → coef (spread a) (2 * i) ≡ coef a i
coef-spread_even a zero =
    ap (λ (x : ℕ). coef x 0) (spread_step a) ∙ coef-xor (spread (a / 2) * 4) (a % 2) 0
    ∙ ap₂ ◌⊕◌ (coef-shl_low (spread (a / 2)) 2 0 (lit< tt)) (coef-zero (a % 2) ∙ omega arith) ∙ sym (coef-zero a)
coef-spread_even a (suc i) =
    let e : 2 * suc i ≡ 2 + 2 * i = omega arith in
    ap₂ coef (spread_step a) e ∙ coef-xor (spread (a / 2) * 4) (a % 2) (2 + 2 * i)
    ∙ ap₂ ◌⊕◌ (coef-shl (spread (a / 2)) 2 (2 * i) ∙ coef-spread_even (a / 2) i) (coef_high 1 (2 + 2 * i) (bit-lt a) (omega arith))
    ∙ xor_zero_r (coef (a / 2) i) ∙ coef_half a i

pub coef-spread_odd : (a i : ℕ) → coef (spread a) (2 * i + 1) ≡ 0
coef-spread_odd a zero =
    ap (λ (x : ℕ). coef x 1) (spread_step a) ∙ coef-xor (spread (a / 2) * 4) (a % 2) 1
    ∙ ap₂ ◌⊕◌ (coef-shl_low (spread (a / 2)) 2 1 (lit< tt)) (coef_high 1 1 (bit-lt a) (lit< tt))
coef-spread_odd a (suc i) =
    let e : 2 * suc i + 1 ≡ 2 + (2 * i + 1) = omega arith in
    ap₂ coef (spread_step a) e ∙ coef-xor (spread (a / 2) * 4) (a % 2) (2 + (2 * i + 1))
    ∙ ap₂ ◌⊕◌ (coef-shl (spread (a / 2)) 2 (2 * i + 1) ∙ coef-spread_odd (a / 2) i) (coef_high 1 (2 + (2 * i + 1)) (bit-lt a) (omega arith))
