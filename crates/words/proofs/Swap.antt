-- Words read from the other end as programs do it: neighbours of k bits change places, for a falling k.
use Rattle.std.proofs.Common.{◌≡◌, ℕ, ◌*◌, ◌/◌, ◌%◌, ◌^◌, ◌<◌}
use lib.Bits.{bit_and, xor_shr, xor_mod}
use Rattle.gf2.specs.Poly.{◌⊕◌}
use Rattle.gf2.proofs.Xor.{xor_medial}
use Rattle.gf2.proofs.Shift.{xor-shl}
use Rattle.gf2.proofs.Bits.{and_xor}
use Rattle.gf2.proofs.Linear.{linear_test, all}
use Rattle.words.specs.Words.{rev}
use Rattle.words.proofs.Rev.{rev-xor}

-- the 64-bit word x with its neighbours of k bits swapped, where the mask m has the lower of each two
abbrev swap : ℕ → ℕ → ℕ → ℕ
swap k m x = bit_and (x / 2 ^ k) m ⊕ bit_and x m * 2 ^ k % 2 ^ 64

swap_xor : (k m a b : ℕ) → swap k m (a ⊕ b) ≡ swap k m a ⊕ swap k m b
swap_xor k m a b = simp (xor_shr, and_xor, xor-shl, xor_mod)
    (xor_medial (bit_and (a / 2 ^ k) m) (bit_and (b / 2 ^ k) m) (bit_and a m * 2 ^ k % 2 ^ 64) (bit_and b m * 2 ^ k % 2 ^ 64))

abbrev swaps : ℕ → ℕ
swaps x =
    swap 1 0x5555555555555555 (swap 2 0x3333333333333333 (swap 4 0x0f0f0f0f0f0f0f0f
    (swap 8 0x00ff00ff00ff00ff (swap 16 0x0000ffff0000ffff (swap 32 0x00000000ffffffff x)))))

pub swaps_law : (x : ℕ) → x < 2 ^ 64 → swaps x ≡ rev 64 x
unfolding rev all
swaps_law = linear_test 64 swaps (rev 64) (λ a b ha hb. simp swap_xor) (λ a b ha hb. rev-xor 64 a b) tt
