-- The square root from the coefficients of even and of odd exponent, and the root of x.
use mathlib.Core.Path.{◌≡◌, sym, ap, ◌∙◌}
use Prim.Native.Nat.{ℕ, ◌*◌, ◌/◌, ◌^◌, ◌<◌}
use native.Mathlib.Nat.{lt_of_lt_of_le}
use lib.Bits.{xor_lt}
use lib.Dec.{T, eqb, eqb→eq, lit<, lit≤}
use Rattle.gf2.specs.Poly.{◌⊕◌, bin_rec, bin_go, cmul, spread}
use Rattle.gf2.specs.Residue.{red, rem, mul, sq, root}
use Rattle.gf2.proofs.Cmul.{cmul-one_l, cmul_dbl_l}
use Rattle.gf2.proofs.Rem.{rem-xor, rem_low, rem-cmul_r}
use Rattle.gf2.proofs.Ring.{mul-lt, sq-xor, sq-mul}
use Rattle.fields.proofs.Field64.{field64}
use Rattle.words.specs.Words.{compact}
use Rattle.words.proofs.Compact.{compact-lt, compact-parts}

-- ---- with a root y of x: the square of e + y o is e² + x o²

module _ (n t : ℕ) (ht : t < 2 ^ n) where
  rem_dbl_spread : (o : ℕ) → rem n t (spread o * 2) ≡ mul n t 2 (sq n t o)
  unfolding mul sq
  rem_dbl_spread o =
      ap (rem n t) (sym (cmul_dbl_l 1 (spread o) ∙ ap (λ (x : ℕ). x * 2) (cmul-one_l (spread o)))) ∙ sym (rem-cmul_r n t ht 2 (spread o))

  pub sq-parts : (y : ℕ) → sq n t y ≡ 2 → (a e o : ℕ) → a < 2 ^ n → a ≡ spread e ⊕ spread o * 2 → sq n t (e ⊕ mul n t y o) ≡ a
  unfolding sq
  sq-parts y hy a e o ha p =
      sq-xor n t e (mul n t y o)
      ∙ ap (λ (x : ℕ). sq n t e ⊕ x) (sq-mul n t ht y o ∙ ap (λ (x : ℕ). mul n t x (sq n t o)) hy ∙ sym (rem_dbl_spread o))
      ∙ sym (rem-xor n t (spread e) (spread o * 2)) ∙ ap (rem n t) (sym p) ∙ rem_low n t a ha

-- ---- at 64 bits

square_of_root : T (eqb (sq 64 0x1b 0xffff_ffff_0000_000a) 2)
unfolding sq rem red spread cmul bin_rec bin_go
square_of_root = tt

-- the constant's rule: its square is x
pub sq-root_x : sq 64 0x1b 0xffff_ffff_0000_000a ≡ 2
sq-root_x = eqb→eq (sq 64 0x1b 0xffff_ffff_0000_000a) 2 square_of_root

-- so it is the root of x
pub root_x : root 64 0x1b 2 ≡ 0xffff_ffff_0000_000a
root_x = sym (field64.only_root 2 0xffff_ffff_0000_000a (lit< tt) (lit< tt) sq-root_x)

pub root-parts : (a : ℕ) → a < 2 ^ 64 → compact a ⊕ mul 64 0x1b 0xffff_ffff_0000_000a (compact (a / 2)) ≡ root 64 0x1b a
root-parts a h =
    let o = compact (a / 2) in
    field64.only_root a (compact a ⊕ mul 64 0x1b 0xffff_ffff_0000_000a o) h
    (xor_lt 64 (compact a) (mul 64 0x1b 0xffff_ffff_0000_000a o) (lt_of_lt_of_le (compact-lt a) (lit≤ tt)) (mul-lt 64 0x1b (lit< tt) 0xffff_ffff_0000_000a o))
    (sq-parts 64 0x1b (lit< tt) 0xffff_ffff_0000_000a sq-root_x a (compact a) o h (compact-parts a h))
