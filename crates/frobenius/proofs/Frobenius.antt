-- The Frobenius maps as quadwords: the rule of the table, entry k squares k times, is one computed test.
use mathlib.Core.Path.{◌≡◌, sym, ap, ◌∙◌}
use mathlib.Core.List.{List, [], ◌∷◌}
use Prim.Native.Nat.{ℕ, ◌%◌, ◌^◌, ◌<◌}
use native.Mathlib.Nat.{mod-lt}
use lib.Dec.{T, eqb, eqb→eq, lit<}
use lib.ListN.{get_or}
use Rattle.gf2.specs.Poly.{bin_rec, bin_go, coef, xsum, cmul, spread}
use Rattle.gf2.specs.Bits.{poly}
use Rattle.gf2.specs.Residue.{red, rem, sq, frob}
use Rattle.spellings.specs.Maps.{Linear}
use Rattle.spellings.specs.Quadword.{image, find_quadword}
use Rattle.gf2.proofs.Linear.{all, all_at}
use Rattle.gf2.proofs.Power.{frob-xor, frob-lt}
use Rattle.gf2.proofs.Field.{frob-mod}
use Rattle.fields.proofs.Field8.{field8}
use Rattle.spellings.proofs.Spelling.{find-same}
use Rattle.spellings.proofs.Quadword.{quadword}

pub frob_linear : (k : ℕ) → Linear 8 (frob 8 0x1b k)
frob_linear k = record { keeps = λ a b ha hb. frob-xor 8 0x1b k a b; below = λ a h. frob-lt 8 0x1b (lit< tt) k h }

-- the table, printed by tools/frobenius.py
unfoldable pub frobenius : List ℕ
frobenius =
    0x102040810204080 ∷ 0x51d022f0946028c0 ∷ 0xed7cb01c764890e8 ∷ 0xb0e34462ed85478 ∷ 0x7102d6da628c9e2c ∷ 0x8dd08e5c981256b2 ∷ 0x437cc26ea4444ee4 ∷ 0xa90e384a820a2aaa ∷ []

rule : T (all 8 (λ k. eqb (get_or frobenius k 0) (find_quadword (frob 8 0x1b k))))
unfolding all frobenius find_quadword poly xsum coef frob sq rem red spread cmul bin_rec bin_go
rule = tt

-- entry k % 8 squares k times
pub frobenius_rule : (k : ℕ) → get_or frobenius (k % 8) 0 ≡ find_quadword (frob 8 0x1b k)
frobenius_rule k =
    eqb→eq (get_or frobenius (k % 8) 0) (find_quadword (frob 8 0x1b (k % 8)))
    (all_at 8 (λ k. eqb (get_or frobenius k 0) (find_quadword (frob 8 0x1b k))) rule (k % 8) (mod-lt k (lit< tt)))
    ∙ find-same quadword (frob 8 0x1b (k % 8)) (frob 8 0x1b k) (frob_linear (k % 8)) (frob_linear k)
    (λ a h. sym (frob-mod field8 k a h))

-- applied, the quadword of k squarings squares k times
pub frobenius-image : (k a : ℕ) {q r : ℕ} → a < 2 ^ 8 → q ≡ find_quadword (frob 8 0x1b k) → r ≡ image q a → r ≡ frob 8 0x1b k a
frobenius-image k a h p e = e ∙ ap (λ (q : ℕ). image q a) p ∙ quadword.found (frob 8 0x1b k) (frob_linear k) a h
