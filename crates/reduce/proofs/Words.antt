-- The two folds where each half of the product is two words of w bits: what the low word pushes out at its top comes in
-- at the bottom of the high one, and what that pushes out is the spill.
use mathlib.Core.Path.{◌≡◌, sym, ap, ap₂, ◌∙◌}
use Prim.Native.Nat.{ℕ, suc, ◌+◌, ◌*◌, ◌/◌, ◌%◌, ◌^◌, ◌≤◌, ◌<◌}
use native.Mathlib.Nat.{mod-lt, mod-eq_of_lt, div-eq_of_lt, mul-mod_left, lt_of_lt_of_le}
use native.Mathlib.Omega.{arith}
use lib.Arith.{digits_lt}
use lib.Pow.{pow_pos, pow_mono, pow-add, shr-shr, shl-shr, mod-pow-add, low, high}
use lib.Bits.{xor_zero_r, xor_lt, xor_shr, xor_mod, xor_shifted, xor_block}
use Rattle.gf2.specs.Poly.{◌⊕◌, cmul}
use Rattle.gf2.specs.Residue.{rem}
use Rattle.gf2.proofs.Xor.{xor_assoc}
use Rattle.gf2.proofs.Cmul.{cmul-xor_l}
use Rattle.gf2.proofs.Fold.{cmul-pow_l}
use Rattle.reduce.specs.Tail.{tail}
use Rattle.reduce.proofs.Folds.{rem_two_folds, spilled-lt, refolded-lt, refolded, shifts, spill, shifts_is, spill_is, tail-lt, shifts_spill}

module _ (w i t : ℕ) (ht : t < 2 ^ suc i) (hi : i + i ≤ w) where
  -- a word times t: what stays in the word, and what does not
  abbrev stays : ℕ → ℕ
  stays h = cmul h t % 2 ^ w

  abbrev spills : ℕ → ℕ
  spills h = cmul h t / 2 ^ w

  stays-lt : (h : ℕ) → stays h < 2 ^ w
  stays-lt h = mod-lt (cmul h t) (pow_pos w)

  module _ (h₁ h₀ : ℕ) (l₁ : h₁ < 2 ^ w) (l₀ : h₀ < 2 ^ w) where
    abbrev product : ℕ
    product = cmul (h₁ * 2 ^ w + h₀) t

    product_is : product ≡ cmul h₁ t * 2 ^ w ⊕ cmul h₀ t
    product_is =
        ap (λ (x : ℕ). cmul x t) (sym (xor_shifted h₁ w h₀ l₀)) ∙ cmul-xor_l (h₁ * 2 ^ w) h₀ t
        ∙ ap (λ (x : ℕ). x ⊕ cmul h₀ t) (cmul-pow_l h₁ t w)

    -- what stands above the low word
    above : product / 2 ^ w ≡ cmul h₁ t ⊕ spills h₀
    above =
        ap (λ (x : ℕ). x / 2 ^ w) product_is ∙ xor_shr (cmul h₁ t * 2 ^ w) (cmul h₀ t) w
        ∙ ap (λ (x : ℕ). x ⊕ spills h₀) (shl-shr (cmul h₁ t) w)

    spill-word : spills h₀ < 2 ^ w
    spill-word = lt_of_lt_of_le (spilled-lt w i t ht hi h₀ l₀) (pow_mono {i = i} {j = w} (omega arith))

    product_low : product % 2 ^ (w + w) ≡ (stays h₁ ⊕ spills h₀) * 2 ^ w + stays h₀
    product_low =
        mod-pow-add product w w
        ∙ ap₂ (λ (x y : ℕ). x * 2 ^ w + y)
        (ap (λ (x : ℕ). x % 2 ^ w) above ∙ xor_mod (cmul h₁ t) (spills h₀) w
        ∙ ap (λ (x : ℕ). stays h₁ ⊕ x) (mod-eq_of_lt spill-word))
        (ap (λ (x : ℕ). x % 2 ^ w) product_is ∙ xor_mod (cmul h₁ t * 2 ^ w) (cmul h₀ t) w
        ∙ ap (λ (x : ℕ). x ⊕ stays h₀) (mul-mod_left (cmul h₁ t) (2 ^ w)))

    product_high : product / 2 ^ (w + w) ≡ spills h₁
    product_high =
        sym (shr-shr product w w) ∙ ap (λ (x : ℕ). x / 2 ^ w) above ∙ xor_shr (cmul h₁ t) (spills h₀) w
        ∙ ap (λ (x : ℕ). spills h₁ ⊕ x) (div-eq_of_lt spill-word)
        ∙ xor_zero_r (spills h₁)

    wide : {x : ℕ} → x < 2 ^ w → x < 2 ^ (w + w)
    wide l = lt_of_lt_of_le l (pow_mono (omega arith))

    -- the remainder of the words h₁ h₀ a₁ a₀, the highest first: its low word and its high one
    module _ (hw : t < 2 ^ w) (a₁ a₀ : ℕ) (m₁ : a₁ < 2 ^ w) (m₀ : a₀ < 2 ^ w) where
      abbrev rest : ℕ
      rest = rem (w + w) t ((h₁ * 2 ^ w + h₀) * 2 ^ (w + w) + (a₁ * 2 ^ w + a₀))

      abbrev high_word : ℕ
      high_word = a₁ ⊕ stays h₁ ⊕ spills h₀

      abbrev low_word : ℕ
      low_word = a₀ ⊕ stays h₀ ⊕ stays (spills h₁)

      first_lt : a₀ ⊕ stays h₀ < 2 ^ w
      first_lt = xor_lt w a₀ (stays h₀) m₀ (stays-lt h₀)

      low_lt : low_word < 2 ^ w
      low_lt = xor_lt w (a₀ ⊕ stays h₀) (stays (spills h₁)) first_lt (stays-lt (spills h₁))

      rest_is : rest ≡ high_word * 2 ^ w + low_word
      rest_is =
          let f₁ = stays h₁ ⊕ spills h₀ in
          let f₀ = stays h₀ in
          let g = stays (spills h₁) in
          rem_two_folds (w + w) t (h₁ * 2 ^ w + h₀) (a₁ * 2 ^ w + a₀)
          (wide hw) (rw pow-add (digits_lt m₁ m₀))
          (rw product_high (wide (refolded-lt w i t ht hi h₁ l₁)))
          ∙ ap₂ (λ (x y : ℕ). (a₁ * 2 ^ w + a₀) ⊕ x ⊕ y) product_low
          (ap (λ (x : ℕ). cmul x t) product_high ∙ sym (refolded w i t ht hi h₁ l₁))
          ∙ ap (λ (x : ℕ). x ⊕ g) (xor_block w a₁ f₁ a₀ f₀ m₀ (stays-lt h₀) ∙ sym (xor_shifted (a₁ ⊕ f₁) w (a₀ ⊕ f₀) first_lt))
          ∙ xor_assoc ((a₁ ⊕ f₁) * 2 ^ w) (a₀ ⊕ f₀) g ∙ xor_shifted (a₁ ⊕ f₁) w (a₀ ⊕ f₀ ⊕ g) low_lt
          ∙ ap (λ (x : ℕ). x * 2 ^ w + low_word) (sym (xor_assoc a₁ (stays h₁) (spills h₀)))

      pub rem-low_folded : rest % 2 ^ w ≡ low_word
      rem-low_folded = ap (λ (x : ℕ). x % 2 ^ w) rest_is ∙ low high_word w low_lt

      pub rem-high_folded : rest / 2 ^ w ≡ high_word
      rem-high_folded = ap (λ (x : ℕ). x / 2 ^ w) rest_is ∙ high high_word w low_lt

-- ---- the same by shifts

module _ (w i j k p q r : ℕ) (ei : i + p ≡ w) (ej : j + q ≡ w) (ek : k + r ≡ w) (hj : j ≤ i) (hk : k ≤ i) (hw : i + i ≤ w) where
  module _ (h₁ h₀ : ℕ) (l₁ : h₁ < 2 ^ w) (l₀ : h₀ < 2 ^ w) where
    module _ (ht : tail i j k < 2 ^ w) (a₁ a₀ : ℕ) (m₁ : a₁ < 2 ^ w) (m₀ : a₀ < 2 ^ w) where
      abbrev rest_by_shifts : ℕ
      rest_by_shifts = rem (w + w) (tail i j k) ((h₁ * 2 ^ w + h₀) * 2 ^ (w + w) + (a₁ * 2 ^ w + a₀))

      pub rem-low_word : rest_by_shifts % 2 ^ w ≡ a₀ ⊕ shifts w i j k h₀ ⊕ shifts w i j k (spill p q r h₁)
      rem-low_word =
          rw (shifts_is w i j k h₀ l₀, shifts_spill w i j k p q r ei ej ek hj hk hw h₁ l₁)
          (rem-low_folded w i (tail i j k) (tail-lt w i j k p q r ei ej ek hj hk hw) hw h₁ h₀ l₁ l₀ ht a₁ a₀ m₁ m₀)

      pub rem-high_word : rest_by_shifts / 2 ^ w ≡ a₁ ⊕ (shifts w i j k h₁ ⊕ spill p q r h₀)
      rem-high_word =
          rw (shifts_is w i j k h₁ l₁, spill_is w i j k p q r ei ej ek h₀ l₀, ← (xor_assoc a₁ (cmul h₁ (tail i j k) % 2 ^ w) (cmul h₀ (tail i j k) / 2 ^ w)))
          (rem-high_folded w i (tail i j k) (tail-lt w i j k p q r ei ej ek hj hk hw) hw h₁ h₀ l₁ l₀ ht a₁ a₀ m₁ m₀)
