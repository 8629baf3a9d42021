-- The two maps of the basis change as quadwords, each the one that its images give.
use mathlib.Core.Path.{◌≡◌, refl, ap, ◌∙◌}
use Prim.Native.Nat.{ℕ, ◌^◌, ◌<◌}
use Rattle.gf2.specs.Poly.{coef, xsum}
use Rattle.gf2.specs.Bits.{poly}
use Rattle.gf2.specs.Linear.{apply}
use Rattle.spellings.specs.Maps.{Linear}
use Rattle.spellings.specs.Quadword.{image, find_quadword}
use Rattle.spellings.specs.Kinds.{turn}
use Rattle.spellings.specs.Kinds.Kind.{Images, Quadword}
use Rattle.towers.specs.Basis.{out_images, out, into_images, into}
use Rattle.spellings.proofs.Quadword.{quadword}
use Rattle.towers.proofs.Basis.{written, out_images_are, out-xor, into-xor, out_lt, into_lt}

written-quadword : turn Images Quadword written ≡ 0xf9c0f6061af24882
unfolding find_quadword poly xsum coef apply
written-quadword = refl

pub out-quadword : turn Images Quadword out_images ≡ 0xf9c0f6061af24882
out-quadword = ap (turn Images Quadword) out_images_are ∙ written-quadword

pub into-quadword : turn Images Quadword into_images ≡ 0xe32c24eed2dcaeac
unfolding find_quadword poly xsum coef apply into_images
into-quadword = refl

-- ---- the quadwords send each byte where the maps do

pub out_linear : Linear 8 out
out_linear = record { keeps = λ a b ha hb. out-xor a b; below = λ a h. out_lt a }

pub into_linear : Linear 8 into
into_linear = record { keeps = λ a b ha hb. into-xor a b; below = λ a h. into_lt a }

pub image-out : (a : ℕ) → a < 2 ^ 8 → image (turn Images Quadword out_images) a ≡ out a
unfolding out
image-out = quadword.found out out_linear

pub image-into : (a : ℕ) → a < 2 ^ 8 → image (turn Images Quadword into_images) a ≡ into a
unfolding into
image-into = quadword.found into into_linear
