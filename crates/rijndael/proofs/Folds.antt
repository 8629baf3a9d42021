-- Two folds of a product of two bytes give its remainder: `two_folds` of gf2, where 15 bits become 11 and then 8.
use Rattle.std.proofs.Common.{◌≡◌, ℕ, ◌/◌, ◌%◌, ◌^◌, ◌<◌, ap, ◌∙◌, ap₂, lit<, lit≤}
use Rattle.gf2.specs.Poly.{◌⊕◌, cmul}
use Rattle.gf2.specs.Residue.{red, rem}
use Rattle.gf2.proofs.Fold.{red-size}
use Rattle.gf2.proofs.Narrow.{two_folds}

pub folds : (p : ℕ) {f g : ℕ} → p < 2 ^ 15 → f ≡ cmul (p / 2 ^ 8) 0x1b → g ≡ cmul (f / 2 ^ 8) 0x1b → (p ⊕ f ⊕ g) % 2 ^ 8 ≡ rem 8 0x1b p
folds p h e d =
    ap₂ (λ (x y : ℕ). (p ⊕ x ⊕ y) % 2 ^ 8) e (d ∙ ap (λ (x : ℕ). cmul (x / 2 ^ 8) 0x1b) e)
    ∙ two_folds 8 0x1b (lit< tt) p
    (red-size 8 0x1b 2 4 8 (lit< tt) (lit≤ tt) (lit≤ tt) (red 8 0x1b p) (red-size 8 0x1b 6 4 11 (lit< tt) (lit≤ tt) (lit≤ tt) p h))
