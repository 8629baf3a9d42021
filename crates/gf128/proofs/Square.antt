-- The square of an element before its reduction: each half, spread out.
use mathlib.Core.Path.{◌≡◌, sym, ap, ap₂, ◌∙◌}
use Prim.Native.Nat.{ℕ, ◌+◌, ◌*◌, ◌^◌, ◌<◌}
use lib.Bits.{xor_shifted}
use lib.Pow.{high, low}
use Rattle.gf2.specs.Poly.{◌⊕◌, spread}
use Rattle.gf2.proofs.Spread.{spread_split, spread-lt}
use Rattle.words.specs.declared.Limbs.{Limbs}
use Rattle.words.specs.Limbs.{value, limbs}
use Rattle.words.proofs.Value.{value-limbs}

pub spread_halves : (a : Limbs) → a.low < 2 ^ 64 → a.high < 2 ^ 64 → {l h : Limbs} → l ≡ limbs (spread a.low) → h ≡ limbs (spread a.high)
    → value h * 2 ^ 128 + value l ≡ spread (value a)
spread_halves a a₀ a₁ p q =
    ap₂ (λ (x y : ℕ). x * 2 ^ 128 + y)
    (ap value q ∙ value-limbs (spread a.high) (spread-lt 64 a₁)) (ap value p ∙ value-limbs (spread a.low) (spread-lt 64 a₀))
    ∙ sym (spread_split (value a) 64
    ∙ ap₂ (λ (x y : ℕ). spread x * 2 ^ 128 ⊕ spread y) (high a.high 64 a₀) (low a.high 64 a₀)
    ∙ xor_shifted (spread a.high) 128 (spread a.low) (spread-lt 64 a₀))
