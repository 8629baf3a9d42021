-- Products of elements before their reduction: 256 bits, each half two limbs.
use mathlib.Core.Path.{◌≡◌, sym, ap, ap₂, ◌∙◌}
use Prim.Native.Nat.{ℕ, ◌+◌, ◌*◌, ◌/◌, ◌%◌, ◌^◌, ◌<◌}
use native.Mathlib.Nat.{div-eq_of_lt, mul-mod_left, mul_assoc, lt_of_lt_of_le}
use lib.Pow.{shl-shr, shr-shr, shr_lt, split, mod-pow-add}
use lib.Bits.{xor_zero_r, xor_shr}
use lib.Dec.{lit≤}
use Rattle.gf2.specs.Poly.{◌⊕◌, cmul}
use Rattle.gf2.specs.Residue.{rem}
use Rattle.gf2.proofs.Cmul.{cmul-lt}
use Rattle.words.specs.declared.Limbs.{Limbs}
use Rattle.words.specs.Limbs.{value, limbs}
use Rattle.words.proofs.Value.{pair, add, value-limbs, limbs-xor}

-- ---- 256 bits from their two halves

pub value-mod : (n : ℕ) → value (limbs n) ≡ n % 2 ^ 128
value-mod n = sym (mod-pow-add n 64 64)

pub join_halves : (n : ℕ) → n < 2 ^ 256 → value (limbs (n / 2 ^ 128)) * 2 ^ 128 + value (limbs n) ≡ n
join_halves n h =
    ap₂ (λ (x y : ℕ). x * 2 ^ 128 + y) (value-limbs (n / 2 ^ 128) (shr_lt 128 128 h)) (value-mod n) ∙ split n 128

-- the remainder from the two halves
pub rem_halves : (n : ℕ) → n < 2 ^ 256 → {l h : Limbs} → l ≡ limbs n → h ≡ limbs (n / 2 ^ 128)
    → limbs (rem 128 0x87 (value h * 2 ^ 128 + value l)) ≡ limbs (rem 128 0x87 n)
rem_halves n lt p q =
    (λ i. limbs (rem 128 0x87 (value (q i) * 2 ^ 128 + value (p i)))) ∙ ap (λ (x : ℕ). limbs (rem 128 0x87 x)) (join_halves n lt)

pub cmul_values_lt : {a b : ℕ} → a < 2 ^ 128 → b < 2 ^ 128 → cmul a b < 2 ^ 256
cmul_values_lt ha hb = lt_of_lt_of_le (cmul-lt 127 127 ha hb) (lit≤ tt)

-- ---- three blocks, 64 bits apart

limbs-shl : (n : ℕ) → limbs (n * 2 ^ 64) ≡ pair 0 (n % 2 ^ 64)
limbs-shl n = ap₂ pair (mul-mod_left n (2 ^ 64)) (ap (λ (x : ℕ). x % 2 ^ 64) (shl-shr n 64))

limbs-shl-all : (n : ℕ) → limbs (n * 2 ^ 128) ≡ pair 0 0
limbs-shl-all n =
    ap limbs (sym (mul_assoc n (2 ^ 64) (2 ^ 64))) ∙ limbs-shl (n * 2 ^ 64) ∙ ap (pair 0) (mul-mod_left n (2 ^ 64))

module _ (h m l : ℕ) (hm : m < 2 ^ 128) (hl : l < 2 ^ 128) where
  pub blocks_low : limbs (h * 2 ^ 128 ⊕ m * 2 ^ 64 ⊕ l) ≡ pair (limbs l).low ((limbs m).low ⊕ (limbs l).high)
  blocks_low =
      limbs-xor (h * 2 ^ 128 ⊕ m * 2 ^ 64) l
      ∙ ap (λ (x : Limbs). add x (limbs l)) (limbs-xor (h * 2 ^ 128) (m * 2 ^ 64) ∙ ap₂ add (limbs-shl-all h) (limbs-shl m))

  above : (h * 2 ^ 128 ⊕ m * 2 ^ 64 ⊕ l) / 2 ^ 128 ≡ h ⊕ m / 2 ^ 64
  above =
      xor_shr (h * 2 ^ 128 ⊕ m * 2 ^ 64) l 128
      ∙ ap₂ ◌⊕◌
      (xor_shr (h * 2 ^ 128) (m * 2 ^ 64) 128
      ∙ ap₂ ◌⊕◌ (shl-shr h 128) (sym (shr-shr (m * 2 ^ 64) 64 64) ∙ ap (λ (x : ℕ). x / 2 ^ 64) (shl-shr m 64)))
      (div-eq_of_lt hl)
      ∙ xor_zero_r (h ⊕ m / 2 ^ 64)

  limbs_top : limbs (m / 2 ^ 64) ≡ pair (limbs m).high 0
  limbs_top = ap (λ (x : ℕ). pair (limbs m).high (x % 2 ^ 64)) (shr-shr m 64 64 ∙ div-eq_of_lt hm)

  pub blocks_high : limbs ((h * 2 ^ 128 ⊕ m * 2 ^ 64 ⊕ l) / 2 ^ 128) ≡ pair ((limbs h).low ⊕ (limbs m).high) (limbs h).high
  blocks_high =
      ap limbs above ∙ limbs-xor h (m / 2 ^ 64) ∙ ap (add (limbs h)) limbs_top
      ∙ ap (pair ((limbs h).low ⊕ (limbs m).high)) (xor_zero_r (limbs h).high)
