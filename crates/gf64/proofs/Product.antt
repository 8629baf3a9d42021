-- The product and the square of words, from what a reduction makes of two limbs.
use Rattle.std.proofs.Common.{◌≡◌, ◌∙◌, ap, ℕ, ◌^◌, ◌<◌}
use Rattle.gf2.specs.Poly.{cmul, spread}
use Rattle.gf2.specs.Residue.{rem, mul, sq}
use Rattle.gf2.proofs.Square.{square_spread}
use Rattle.words.specs.declared.Limbs.{Limbs}
use Rattle.words.specs.Limbs.{value, limbs}
use Rattle.words.proofs.Value.{value-limbs}
use Rattle.clmul.proofs.Halves.{cmul_words_lt, value-cmul}

pub rem-product : {a b : ℕ} → a < 2 ^ 64 → b < 2 ^ 64 → {l : Limbs} → l ≡ limbs (cmul a b) → rem 64 0x1b (value l) ≡ mul 64 0x1b a b
unfolding mul
rem-product ha hb e = ap (λ (l : Limbs). rem 64 0x1b (value l)) e ∙ ap (rem 64 0x1b) (value-cmul ha hb)

pub rem_square : {a : ℕ} → a < 2 ^ 64 → {l : Limbs} → l ≡ limbs (spread a) → rem 64 0x1b (value l) ≡ sq 64 0x1b a
unfolding sq
rem_square {a} h e =
    ap (λ (l : Limbs). rem 64 0x1b (value l)) e ∙ ap (rem 64 0x1b) (value-limbs (spread a) (rw (square_spread a) at (cmul_words_lt h h)))
