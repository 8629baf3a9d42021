-- A sum of products, unreduced in two limbs until the end.
use mathlib.Core.Path.{◌≡◌, refl, ap, ◌∙◌}
use Prim.Native.Nat.{ℕ, ◌+◌, ◌^◌, ◌<◌}
use Rattle.gf2.specs.Poly.{◌⊕◌, xsum, cmul}
use Rattle.gf2.specs.Residue.{rem, dot}
use Rattle.gf2.proofs.Sum.{xsum-lt, xsum_turn}
use Rattle.gf2.proofs.Dot.{rem-dot}
use Rattle.words.specs.declared.Limbs.{Limbs}
use Rattle.words.specs.Limbs.{value, limbs}
use Rattle.words.proofs.Value.{pair, limbs-sum, value-limbs}
use Rattle.clmul.proofs.Halves.{cmul_words_lt}

module _ (f g : ℕ → ℕ) where
  -- the sum of the first k products, unreduced
  unfoldable pub products : ℕ → ℕ
  products k = xsum k (λ i. cmul (f i) (g i))

  pub products_none : pair 0 0 ≡ limbs (products 0)
  unfolding products xsum
  products_none = refl

  pub products_turn : (k : ℕ) {l p : Limbs} → l ≡ limbs (products k) → p ≡ limbs (cmul (f k) (g k))
      → limbs (value l ⊕ value p) ≡ limbs (products (k + 1))
  unfolding products
  products_turn k e q =
      limbs-sum (xsum k (λ i. cmul (f i) (g i))) (cmul (f k) (g k)) e q ∙ ap limbs (xsum_turn k (λ i. cmul (f i) (g i)) refl refl)

  -- one reduction gives the sum of the products
  pub products-rem : (k : ℕ) → ((i : ℕ) → f i < 2 ^ 64) → ((i : ℕ) → g i < 2 ^ 64) → {l : Limbs} → l ≡ limbs (products k)
      → rem 64 0x1b (value l) ≡ dot 64 0x1b k f g
  unfolding products
  products-rem k hf hg e =
      ap (λ (l : Limbs). rem 64 0x1b (value l)) e
      ∙ ap (rem 64 0x1b) (value-limbs (xsum k (λ i. cmul (f i) (g i))) (xsum-lt 128 k (λ i l. cmul_words_lt (hf i) (hg i)))) ∙ rem-dot 64 0x1b k f g
