-- Maps that keep XOR.
use Rattle.std.specs.Prelude.{◌≡◌, List, [], ◌∷◌, ℕ, ◌*◌, ◌/◌, ◌%◌, ◌^◌, ◌<◌}
use Rattle.gf2.specs.Poly.{◌⊕◌}

-- f keeps the sums of numbers of n bits
abbrev pub Additive : ℕ → (ℕ → ℕ) → Type 0
Additive n f = (a b : ℕ) → a < 2 ^ n → b < 2 ^ n → f (a ⊕ b) ≡ f a ⊕ f b

-- the map with a given list of images: entry i is where x^i goes
unfoldable pub apply : List ℕ → ℕ → ℕ
apply [] a = 0
apply (c ∷ cs) a = a % 2 * c ⊕ apply cs (a / 2)
