-- Spreading and compaction as programs do it: in each round a word meets itself shifted, under a mask.
use Rattle.std.proofs.Common.{◌≡◌, ℕ, ◌*◌, ◌/◌, ◌%◌, ◌^◌, ◌<◌, sym, ap, ◌∙◌, mod-lt, pow_pos, shr_lt}
use lib.Bits.{bit_and, and_mask, xor_shr, xor_mod}
use Rattle.gf2.specs.Poly.{◌⊕◌, coef, xsum, bin_rec, bin_go, spread}
use Rattle.gf2.specs.Bits.{poly}
use Rattle.gf2.proofs.Xor.{xor_medial}
use Rattle.gf2.proofs.Shift.{xor-shl}
use Rattle.gf2.proofs.Bits.{and_xor}
use Rattle.gf2.proofs.Linear.{linear_test, all}
use Rattle.gf2.proofs.Spread.{spread-xor, spread_split, spread-lt}
use Rattle.words.specs.Words.{compact}
use Rattle.words.specs.Limbs.{limbs}
use Rattle.words.proofs.Value.{pair, limbs-join}
use Rattle.words.proofs.Compact.{compact-xor}

-- ---- spreading: k bits up, in a word of 64 bits

abbrev up : ℕ → ℕ → ℕ → ℕ
up k m x = bit_and (x ⊕ x * 2 ^ k % 2 ^ 64) m

up-xor : (k m a b : ℕ) → up k m (a ⊕ b) ≡ up k m a ⊕ up k m b
up-xor k m a b =
    simp (xor-shl, xor_mod, and_xor)
    (xor_medial (bit_and a m) (bit_and b m) (bit_and (a * 2 ^ k % 2 ^ 64) m) (bit_and (b * 2 ^ k % 2 ^ 64) m))

abbrev ups : ℕ → ℕ
ups x =
    up 1 0x5555555555555555 (up 2 0x3333333333333333 (up 4 0x0f0f0f0f0f0f0f0f (up 8 0x00ff00ff00ff00ff (up 16 0x0000ffff0000ffff x))))

pub ups_law : (x : ℕ) → x < 2 ^ 32 → ups x ≡ spread x
unfolding spread bin_rec bin_go all
ups_law = linear_test 32 ups spread (λ a b ha hb. simp up-xor) (λ a b ha hb. spread-xor a b) tt

-- a word by halves
pub spread_halves : (v : ℕ) → v < 2 ^ 64 → pair (spread (bit_and v 0xffffffff)) (spread (v / 2 ^ 32)) ≡ limbs (spread v)
spread_halves v h =
    ap (λ (x : ℕ). pair (spread x) (spread (v / 2 ^ 32))) (and_mask v 32)
    ∙ sym (ap limbs (spread_split v 32)
    ∙ limbs-join (spread (v / 2 ^ 32)) (spread (v % 2 ^ 32)) (spread-lt 32 (shr_lt 32 32 h)) (spread-lt 32 (mod-lt v (pow_pos 32))))

-- ---- compaction: k bits down

abbrev down : ℕ → ℕ → ℕ → ℕ
down k m x = bit_and (x ⊕ x / 2 ^ k) m

down-xor : (k m a b : ℕ) → down k m (a ⊕ b) ≡ down k m a ⊕ down k m b
down-xor k m a b =
    simp (xor_shr, and_xor) (xor_medial (bit_and a m) (bit_and b m) (bit_and (a / 2 ^ k) m) (bit_and (b / 2 ^ k) m))

abbrev downs : ℕ → ℕ
downs x =
    down 16 0x00000000ffffffff (down 8 0x0000ffff0000ffff (down 4 0x00ff00ff00ff00ff (down 2 0x0f0f0f0f0f0f0f0f (down 1 0x3333333333333333 (bit_and x 0x5555555555555555)))))

pub downs_law : (x : ℕ) → x < 2 ^ 64 → downs x ≡ compact x
unfolding compact poly xsum coef all
downs_law = linear_test 64 downs compact (λ a b ha hb. rw (and_xor a b 0x5555555555555555) (simp down-xor)) (λ a b ha hb. compact-xor a b) tt
