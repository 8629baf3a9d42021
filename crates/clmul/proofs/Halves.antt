-- The two halves of the carryless product of two words: its limbs, and the high one from the reversed words.
use mathlib.Core.Path.{◌≡◌, sym, ap, ap₂, ◌∙◌}
use Prim.Native.Nat.{ℕ, suc, ◌+◌, ◌-◌, ◌/◌, ◌%◌, ◌^◌, ◌<◌}
use native.Mathlib.Nat.{lt_of_lt_of_le}
use native.Mathlib.Omega.{arith}
use lib.Pow.{shr_lt}
use lib.Dec.{lit≤}
use Rattle.gf2.specs.Poly.{coef, cmul}
use Rattle.gf2.proofs.Shift.{coef_half, ext_below, half_lt}
use Rattle.gf2.proofs.Cmul.{cmul-lt}
use Rattle.words.specs.Words.{rev}
use Rattle.words.specs.Limbs.{value, limbs}
use Rattle.gf2.proofs.Bits.{coef-shr, coef_low}
use Rattle.words.proofs.Rev.{rev-lt, rev-coef, rev-cmul}
use Rattle.words.proofs.Value.{pair, value-limbs, limbs-small}

module _ {a b : ℕ} (ha : a < 2 ^ 64) (hb : b < 2 ^ 64) where
  pub cmul_words_lt : cmul a b < 2 ^ 128
  cmul_words_lt = lt_of_lt_of_le (cmul-lt 63 63 ha hb) (lit≤ tt)

  pub value-cmul : value (limbs (cmul a b)) ≡ cmul a b
  value-cmul = value-limbs (cmul a b) cmul_words_lt

  pub limbs-cmul : {l h : ℕ} → l ≡ cmul a b % 2 ^ 64 → h ≡ cmul a b / 2 ^ 64 → pair l h ≡ limbs (cmul a b)
  limbs-cmul p q = ap₂ pair p q ∙ sym (limbs-small (cmul a b) cmul_words_lt)

-- reversed words have the reversed product: its low half, read from the other end, is coefficients 63 to 126
pub high_half : (a b : ℕ) → a < 2 ^ 64 → b < 2 ^ 64 → rev 64 (cmul (rev 64 a) (rev 64 b) % 2 ^ 64) / 2 ≡ cmul a b / 2 ^ 64
high_half a b ha hb =
    ext_below 63 _ _ (half_lt 63 (rev-lt 64 _)) (shr_lt 63 64 (cmul-lt 63 63 ha hb))
    (λ i l.
    let d : 62 - i < 64 = omega arith in
    let e : 64 - 1 - suc i ≡ 62 - i = omega arith in
    let f : 127 - 1 - (62 - i) ≡ 64 + i = omega arith in
    coef_half (rev 64 (cmul (rev 64 a) (rev 64 b) % 2 ^ 64)) i
    ∙ rev-coef 64 (cmul (rev 64 a) (rev 64 b) % 2 ^ 64) (suc i) (omega arith)
    ∙ ap (coef (cmul (rev 64 a) (rev 64 b) % 2 ^ 64)) e
    ∙ coef_low (cmul (rev 64 a) (rev 64 b)) 64 (62 - i) d
    ∙ ap (λ (x : ℕ). coef x (62 - i)) (rev-cmul 63 63 a b ha hb)
    ∙ rev-coef 127 (cmul a b) (62 - i) (omega arith)
    ∙ ap (coef (cmul a b)) f ∙ sym (coef-shr (cmul a b) 64 i))
