-- Numbers of 128 bits and their two limbs: each gives the other back, and sums go limb by limb.
use Rattle.std.proofs.Common.{◌≡◌, ℕ, ◌*◌, ◌/◌, ◌%◌, ◌^◌, ◌<◌, sym, ap, ◌∙◌, ap₂, mod-lt, mod-eq_of_lt, pow_pos}
use lib.Arith.{digits_lt}
use lib.Pow.{high, low, recompose, shr_mod}
use lib.Bits.{xor_shr, xor_mod, xor_shifted, xor_block}
use Rattle.gf2.specs.Poly.{◌⊕◌}
use Rattle.words.specs.declared.Limbs.{Limbs}
use Rattle.words.specs.Limbs.{value, limbs}

-- two limbs by name, the low one first
abbrev pub pair : ℕ → ℕ → Limbs
pair l h = record { low = l; high = h }

-- the sum, limb by limb
abbrev pub add : Limbs → Limbs → Limbs
add a b = pair (a.low ⊕ b.low) (a.high ⊕ b.high)

-- ---- there and back

pub value-limbs : (n : ℕ) → n < 2 ^ 128 → value (limbs n) ≡ n
value-limbs n h = recompose 64 64 h

pub limbs-value : (l : Limbs) → l.low < 2 ^ 64 → l.high < 2 ^ 64 → limbs (value l) ≡ l
limbs-value l a b = ap₂ pair (low l.high 64 a) (ap (λ (x : ℕ). x % 2 ^ 64) (high l.high 64 a) ∙ mod-eq_of_lt b)

pub value-lt : (l : Limbs) → l.low < 2 ^ 64 → l.high < 2 ^ 64 → value l < 2 ^ 128
value-lt l a b = digits_lt b a

pub limbs_low_lt : (n : ℕ) → (limbs n).low < 2 ^ 64
limbs_low_lt n = mod-lt n (pow_pos 64)

pub limbs_high_lt : (n : ℕ) → (limbs n).high < 2 ^ 64
limbs_high_lt n = mod-lt (n / 2 ^ 64) (pow_pos 64)

-- of 128 bits the high limb is all that the low one leaves
pub limbs-small : (n : ℕ) → n < 2 ^ 128 → limbs n ≡ pair (n % 2 ^ 64) (n / 2 ^ 64)
limbs-small n h = ap (pair (n % 2 ^ 64)) (shr_mod 64 64 h)

-- ---- sums

-- the high limb times x^64, and the low one
pub value-xor : (l : Limbs) → l.low < 2 ^ 64 → value l ≡ l.high * 2 ^ 64 ⊕ l.low
value-xor l a = sym (xor_shifted l.high 64 l.low a)

pub limbs-join : (h l : ℕ) → h < 2 ^ 64 → l < 2 ^ 64 → limbs (h * 2 ^ 64 ⊕ l) ≡ pair l h
limbs-join h l a b = ap limbs (sym (value-xor (pair l h) b)) ∙ limbs-value (pair l h) b a

pub limbs-xor : (a b : ℕ) → limbs (a ⊕ b) ≡ add (limbs a) (limbs b)
limbs-xor a b = ap₂ pair (xor_mod a b 64) (ap (λ (x : ℕ). x % 2 ^ 64) (xor_shr a b 64) ∙ xor_mod (a / 2 ^ 64) (b / 2 ^ 64) 64)

-- the limbs of the sum of two numbers of 128 bits
pub xor-limbs : (a b : Limbs) → a.low < 2 ^ 64 → a.high < 2 ^ 64 → b.low < 2 ^ 64 → b.high < 2 ^ 64
    → limbs (value a ⊕ value b) ≡ add a b
xor-limbs a b a₀ a₁ b₀ b₁ = limbs-xor (value a) (value b) ∙ ap₂ add (limbs-value a a₀ a₁) (limbs-value b b₀ b₁)

limbs_again : (n : ℕ) → limbs (value (limbs n)) ≡ limbs n
limbs_again n = limbs-value (limbs n) (limbs_low_lt n) (limbs_high_lt n)

-- of any two numbers, from their limbs
pub limbs-sum : (a b : ℕ) {l m : Limbs} → l ≡ limbs a → m ≡ limbs b → limbs (value l ⊕ value m) ≡ limbs (a ⊕ b)
limbs-sum a b {l} {m} p q =
    ap₂ (λ (x y : Limbs). limbs (value x ⊕ value y)) p q ∙ limbs-xor (value (limbs a)) (value (limbs b))
    ∙ ap₂ add (limbs_again a) (limbs_again b) ∙ sym (limbs-xor a b)

pub value-add : (a b : Limbs) → a.low < 2 ^ 64 → b.low < 2 ^ 64 → value (add a b) ≡ value a ⊕ value b
value-add a b ha hb = sym (xor_block 64 a.high b.high a.low b.low ha hb)
