-- Numbers and lists by their entries, parities, and a choice by a test.
use Rattle.std.specs.Prelude.{Bool, true, false, List, [], ◌∷◌, ℕ, zero, suc, ◌*◌, ◌^◌}
use Rattle.gf2.specs.Poly.{coef, xsum}

-- the number whose bits below k are given, each 0 or 1
unfoldable pub poly : ℕ → (ℕ → ℕ) → ℕ
poly k p = xsum k (λ i. p i * 2 ^ i)

-- the parity of the lowest k bits
unfoldable pub parity : ℕ → ℕ → ℕ
parity k a = xsum k (λ i. coef a i)

module _ {A : Type 0} where
  -- the first where the test holds, and else the second
  abbrev pub pick : Bool → A → A → A
  pick true a b = a
  pick false a b = b

  -- the list f 0, .., f (k - 1)
  unfoldable pub tab : ℕ → (ℕ → A) → List A
  tab zero f = []
  tab (suc k) f = f 0 ∷ tab k (λ i. f (suc i))
