-- Maps of n-bit numbers that keep XOR.
use Rattle.std.specs.Prelude.{◌≡◌, ℕ, ◌^◌, ◌<◌}
use Rattle.gf2.specs.Linear.{Additive}

-- f keeps XOR, and its values are numbers of n bits again
pub record Linear (n : ℕ) (f : ℕ → ℕ) : Type 0 where
  pub keeps : Additive n f
  pub below : (a : ℕ) → a < 2 ^ n → f a < 2 ^ n

-- f and g agree on all numbers of n bits
abbrev pub Same : ℕ → (ℕ → ℕ) → (ℕ → ℕ) → Type 0
Same n f g = (a : ℕ) → a < 2 ^ n → f a ≡ g a

-- first g, then f
abbrev pub after : (ℕ → ℕ) → (ℕ → ℕ) → ℕ → ℕ
after f g a = f (g a)
