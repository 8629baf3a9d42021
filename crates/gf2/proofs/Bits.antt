-- The bits of powers, masked, shifted and cut numbers; numbers from their bits; the parity of a mask.
use mathlib.Core.Path.{◌≡◌, refl, sym, ap, ◌∙◌}
use Prim.Native.Nat.{ℕ, zero, suc, ◌+◌, ◌*◌, ◌/◌, ◌%◌, ◌^◌, ◌≤◌, ◌<◌}
use native.Mathlib.Nat.{zero-mul, one-mul, mul_comm, pow-suc, div-eq_of_lt, lt_of_lt_of_le, le_of_suc-le-suc, not-suc-le-zero}
use native.Mathlib.Numerals.{add-one}
use native.Mathlib.Omega.{arith}
use lib.Pow.{pow-lt, pow_mono, shl_exact, shr-shr, shl-shr, field, mod-mod-pow}
use lib.Dec.{lit<}
use lib.Bits.{bit_and, and_shr, and_mod, and_mask, shifted_half, shifted_even}
use Rattle.gf2.specs.Poly.{◌⊕◌, coef, xsum}
use Rattle.gf2.specs.Bits.{poly, parity}
use Rattle.gf2.proofs.Xor.{bit_elim, bit-lt}
use Rattle.gf2.proofs.Shift.{coef-zero, coef_half, coef-lt, coef-xor, ext, dbl_bit, xor_bits, bit-mul-lt}
use Rattle.gf2.proofs.Coef.{coef-nil, coef_dbl, coef_scale}
use Rattle.gf2.proofs.Sum.{δ, δ_sym, xsum_below, xsum-lt, xsum_turn, xsum-xor, xsum-map, xsum-δ}

-- ---- the bits of a power, and under a mask

pub coef-pow : (b i : ℕ) → coef (2 ^ b) i ≡ δ b i
unfolding coef δ
coef-pow zero zero = refl
coef-pow zero (suc i) = sym (coef_half 1 i) ∙ coef-nil i
coef-pow (suc b) zero = coef-zero (2 ^ suc b) ∙ ap (λ (x : ℕ). x % 2) (pow-suc 2 b) ∙ dbl_bit (2 ^ b)
coef-pow (suc b) (suc i) = ap (λ (x : ℕ). coef x (suc i)) (pow-suc 2 b) ∙ coef_dbl (2 ^ b) i ∙ coef-pow b i

bits_and : {x y : ℕ} → x < 2 → y < 2 → bit_and x y ≡ x * y
bits_and {x} {y} hx hy =
    bit_elim (λ (x : ℕ). bit_and x y ≡ x * y) (sym (zero-mul y))
    (bit_elim (λ (y : ℕ). bit_and 1 y ≡ 1 * y) refl refl hy) hx

pub coef-and : (a b i : ℕ) → coef (bit_and a b) i ≡ coef a i * coef b i
unfolding coef
coef-and a b i = simp (and_shr, and_mod (a / 2 ^ i) (b / 2 ^ i) 1) (bits_and (bit-lt (a / 2 ^ i)) (bit-lt (b / 2 ^ i)))

-- as code reads a bit
pub coef_mask : (a i : ℕ) → bit_and (a / 2 ^ i) 1 ≡ coef a i
unfolding coef
coef_mask a i = and_mask (a / 2 ^ i) 1

-- and makes one
pub shl_one : (w b : ℕ) → b < w → 1 * 2 ^ b % 2 ^ w ≡ 2 ^ b
shl_one w b h = shl_exact 1 b w (lit< tt) (omega arith) ∙ one-mul (2 ^ b)

pub and_xor : (a b m : ℕ) → bit_and (a ⊕ b) m ≡ bit_and a m ⊕ bit_and b m
and_xor a b m =
    ext (bit_and (a ⊕ b) m) (bit_and a m ⊕ bit_and b m)
    (λ i. simp (coef-and, coef-xor) (xor_bits (coef-lt a i) (coef-lt b i) (coef m i)))

-- ---- the bits of a shifted or cut number

pub coef-shr : (a k i : ℕ) → coef (a / 2 ^ k) i ≡ coef a (k + i)
unfolding coef
coef-shr a k i = ap (λ (x : ℕ). x % 2) (shr-shr a k i)

pub coef-shl : (a k i : ℕ) → coef (a * 2 ^ k) (k + i) ≡ coef a i
coef-shl a k i = sym (coef-shr (a * 2 ^ k) k i) ∙ ap (λ (x : ℕ). coef x i) (shl-shr a k)

-- below a shift nothing is left
pub coef-shl_low : (a k i : ℕ) → i < k → coef (a * 2 ^ k) i ≡ 0
coef-shl_low a zero i h = absurd (not-suc-le-zero h)
coef-shl_low a (suc k) zero h = coef-zero (a * 2 ^ suc k) ∙ shifted_even a k
coef-shl_low a (suc k) (suc i) h =
    sym (coef_half (a * 2 ^ suc k) i) ∙ ap (λ (x : ℕ). coef x i) (shifted_half a k) ∙ coef-shl_low a k i (le_of_suc-le-suc h)

-- a cut leaves what is below it
pub coef_low : (a k i : ℕ) → i < k → coef (a % 2 ^ k) i ≡ coef a i
coef_low a zero i h = absurd (not-suc-le-zero h)
coef_low a (suc k) zero h = coef-zero (a % 2 ^ suc k) ∙ (rw add-one at (mod-mod-pow a k 1)) ∙ sym (coef-zero a)
coef_low a (suc k) (suc i) h =
    sym (coef_half (a % 2 ^ suc k) i) ∙ ap (λ (x : ℕ). coef x i) (rw add-one at (field a k 1)) ∙ coef_low (a / 2) k i (le_of_suc-le-suc h) ∙ coef_half a i

-- a number of k bits has none above
pub coef_high : {a : ℕ} (k i : ℕ) → a < 2 ^ k → k ≤ i → coef a i ≡ 0
unfolding coef
coef_high {a} k i h l = ap (λ (x : ℕ). x % 2) (div-eq_of_lt (lt_of_lt_of_le h (pow_mono l)))

-- ---- the number whose bits below k are given

pub poly_below : (k : ℕ) {p q : ℕ → ℕ} → ((i : ℕ) → i < k → p i ≡ q i) → poly k p ≡ poly k q
unfolding poly
poly_below k h = xsum_below k (λ i l. ap (λ (x : ℕ). x * 2 ^ i) (h i l))

pub poly-nil : (p : ℕ → ℕ) → poly 0 p ≡ 0
unfolding poly xsum
poly-nil p = refl

-- one turn of a loop that sets bit after bit of a word of w bits
pub poly_turn : (w k : ℕ) (p : ℕ → ℕ) {s x : ℕ} → k < w → p k < 2 → s ≡ poly k p → x ≡ p k → s ⊕ x * 2 ^ k % 2 ^ w ≡ poly (k + 1) p
unfolding poly
poly_turn w k p {s} {x} h b e q =
    xsum_turn k (λ i. p i * 2 ^ i) e (ap (λ (y : ℕ). y * 2 ^ k % 2 ^ w) q ∙ shl_exact 1 k w b (omega arith))

module _ (k : ℕ) (p : ℕ → ℕ) (hp : (i : ℕ) → p i < 2) where
  pub poly-lt : poly k p < 2 ^ k
  unfolding poly
  poly-lt = xsum-lt k k (λ i l. bit-mul-lt k (hp i) (pow-lt l))

  pub coef-poly : (i : ℕ) → i < k → coef (poly k p) i ≡ p i
  unfolding poly
  coef-poly i h =
      xsum-map (λ (x : ℕ). coef x i) (λ a b. coef-xor a b i) k (λ j. p j * 2 ^ j)
      ∙ xsum_below k (λ j l. coef_scale (hp j) (2 ^ j) i ∙ ap (λ (x : ℕ). p j * x) (coef-pow j i) ∙ mul_comm (p j) (δ j i))
      ∙ xsum-δ k i h p

-- ---- the parity of the lowest k bits

pub parity-lt : (k a : ℕ) → parity k a < 2
unfolding parity
parity-lt k a = xsum-lt 1 k (λ i l. coef-lt a i)

pub parity-xor : (k a b : ℕ) → parity k (a ⊕ b) ≡ parity k a ⊕ parity k b
unfolding parity
parity-xor k a b = xsum_below k (λ i l. coef-xor a b i) ∙ xsum-xor k (coef a) (coef b)

-- under the mask 2^b: one bit
pub parity-pow : (k m b : ℕ) → b < k → parity k (bit_and (2 ^ b) m) ≡ coef m b
unfolding parity
parity-pow k m b h =
    xsum_below k (λ i l. coef-and (2 ^ b) m i ∙ ap (λ (x : ℕ). x * coef m i) (coef-pow b i ∙ δ_sym b i)) ∙ xsum-δ k b h (coef m)
