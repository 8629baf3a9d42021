-- The square of a polynomial over GF(2) sets its coefficients two apart.
use mathlib.Core.Path.{◌≡◌, refl, sym, ap, ap₂, ◌∙◌}
use Prim.Native.Nat.{ℕ, ◌+◌, ◌*◌, ◌/◌, ◌%◌, ◌<◌}
use native.Mathlib.Nat.{mul_assoc, lt_of_lt_of_le}
use lib.Arith.{bin_ind}
use lib.Bits.{xor_shifted}
use lib.Dec.{lit≤}
use Rattle.gf2.specs.Poly.{◌⊕◌, cmul, spread}
use Rattle.gf2.proofs.Xor.{bit_elim, bit-lt}
use Rattle.gf2.proofs.Shift.{xor_digit}
use Rattle.gf2.proofs.BinRec.{bin_rec-zero, bin_rec_step}
use Rattle.gf2.proofs.Cmul.{cmul-zero_l, cmul-one_l, cmul_dbl_l, cmul_dbl_r, cmul_square}

pub spread-zero : spread 0 ≡ 0
unfolding spread
spread-zero = bin_rec-zero 0 (λ d r. r * 4 + d % 2)

pub spread_step : (a : ℕ) → spread a ≡ spread (a / 2) * 4 ⊕ a % 2
unfolding spread
spread_step a =
    bin_rec_step 0 (λ d r. r * 4 + d % 2) refl a ∙ sym (xor_shifted (spread (a / 2)) 2 (a % 2) (lt_of_lt_of_le (bit-lt a) (lit≤ tt)))

bit_square : {x : ℕ} → x < 2 → cmul x x ≡ x
bit_square = bit_elim (λ (x : ℕ). cmul x x ≡ x) (cmul-zero_l 0) (cmul-one_l 1)

square_step : (a : ℕ) → cmul a a ≡ cmul (a / 2) (a / 2) * 4 ⊕ a % 2
square_step a =
    ap₂ cmul (sym (xor_digit a)) (sym (xor_digit a)) ∙ cmul_square (a / 2 * 2) (a % 2)
    ∙ simp (cmul_dbl_l, cmul_dbl_r, mul_assoc, bit_square (bit-lt a))

pub square_spread : (a : ℕ) → cmul a a ≡ spread a
square_spread =
    bin_ind (λ (a : ℕ). cmul a a ≡ spread a) (cmul-zero_l 0 ∙ sym spread-zero)
    (λ a ih. square_step a ∙ ap (λ (x : ℕ). x * 4 ⊕ a % 2) ih ∙ sym (spread_step a))
