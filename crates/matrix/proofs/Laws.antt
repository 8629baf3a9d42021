-- The two constants: which maps the quadwords 0 and 0x0102040810204080 are. (`zero` and `identity` of src/ show that the
-- constants are these.)
use mathlib.Core.Path.{◌≡◌, refl, sym, ap, ◌∙◌}
use Prim.Native.Nat.{ℕ, ◌^◌, ◌<◌}
use Rattle.gf2.specs.Poly.{coef, xsum}
use Rattle.gf2.specs.Bits.{poly}
use Rattle.spellings.specs.Quadword.{image, find_quadword}
use Rattle.spellings.specs.Kinds.{Kind, find}
use Rattle.gf2.proofs.Linear.{additive_zero}
use Rattle.spellings.proofs.Quadword.{quadword}
use Rattle.spellings.proofs.Image.{image-xor_l}
use Rattle.spellings.proofs.Algebra.{identity_linear}

pub find-zero : find Kind.Quadword (λ a. 0) ≡ 0
unfolding find_quadword poly xsum coef
find-zero = refl

pub find_identity : find Kind.Quadword (λ a. a) ≡ 0x0102040810204080
unfolding find_quadword poly xsum coef
find_identity = refl

-- every byte to zero
pub image-zero : (a : ℕ) → image 0 a ≡ 0
image-zero a = additive_zero 0 (λ q. image q a) (λ p q hp hq. image-xor_l p q a)

-- every byte to itself
pub image_identity : (a : ℕ) → a < 2 ^ 8 → image 0x0102040810204080 a ≡ a
image_identity a h = ap (λ (q : ℕ). image q a) (sym find_identity) ∙ quadword.found (λ a. a) identity_linear a h
