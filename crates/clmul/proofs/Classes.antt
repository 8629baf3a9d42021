-- The bits of a word by their place modulo 4, and the product of two such classes.
use mathlib.Core.Path.{◌≡◌, refl, sym, ap, ap₂, ◌∙◌}
use Prim.Native.Nat.{ℕ, zero, suc, ◌+◌, ◌-◌, ◌*◌, ◌/◌, ◌%◌, ◌^◌, ◌≤◌, ◌<◌}
use native.Mathlib.Nat.{add-zero, add_comm, mul_assoc, mul_comm, mul_left_comm, mod-lt}
use native.Mathlib.Decide.{dec_lt}
use native.Mathlib.Omega.{arith}
use lib.Pow.{pow_pos, shr-shr, split}
use lib.Bits.{bit_and, and_mask, and_mod, and_shr, and_block, and_zero_r}
use lib.Dec.{lit≤}
use Rattle.gf2.specs.Poly.{coef, cmul}
use Rattle.gf2.proofs.Cmul.{cmul_comm, cmul-pow_r}
use Rattle.gf2.proofs.Bits.{coef-shl, coef-shl_low}
use Rattle.clmul.proofs.Cells.{Picks, mul_counts, counts_coef}

-- a one in each of n + 1 cells
abbrev pub ones : ℕ → ℕ
ones zero = 1
ones (suc n) = ones n * 16 + 1

-- the bits of x whose places are r modulo 4
abbrev pub class : ℕ → ℕ → ℕ
class r x = bit_and x (0x1111111111111111 * 2 ^ r)

-- the same, moved to the cells' lowest bits
abbrev cells : ℕ → ℕ → ℕ
cells r x = bit_and (x / 2 ^ r) 0x1111111111111111

class-cells : (r x : ℕ) → class r x ≡ cells r x * 2 ^ r
class-cells r x =
    ap₂ bit_and (sym (split x r)) (sym (add-zero (0x1111111111111111 * 2 ^ r)))
    ∙ and_block r (x / 2 ^ r) 0x1111111111111111 (x % 2 ^ r) 0 (mod-lt x (pow_pos r)) (pow_pos r)
    ∙ ap (λ (y : ℕ). cells r x * 2 ^ r + y) (and_zero_r (x % 2 ^ r)) ∙ add-zero (cells r x * 2 ^ r)

low_bit : (x o : ℕ) → o % 16 ≡ 1 → bit_and x o % 16 ≡ x % 2
low_bit x o e = and_mod x o 4 ∙ ap (bit_and (x % 16)) e ∙ and_mask (x % 16) 1 ∙ omega arith

picks_ones : (j n t x : ℕ) → x ≡ t / 2 ^ j → Picks j n (bit_and x (ones n)) t
unfolding coef
picks_ones j zero t x e = low_bit x 1 refl ∙ ap (λ (y : ℕ). y % 2) e
picks_ones j (suc n) t x e =
    let h : (ones n * 16 + 1) % 16 ≡ 1 = omega arith in
    let g : (ones n * 16 + 1) / 16 ≡ ones n = omega arith in (
      low_bit x (ones n * 16 + 1) h ∙ ap (λ (y : ℕ). y % 2) e,
      rw (and_shr x (ones n * 16 + 1) 4, g)
          (picks_ones j n (t / 16) (x / 16) (ap (λ (y : ℕ). y / 16) e ∙ shr-shr t j 4 ∙ ap (λ (y : ℕ). t / 2 ^ y) (add_comm j 4) ∙ sym (shr-shr t 4 j))),
    )

regroup : (a b c d : ℕ) → a * b * (c * d) ≡ a * c * d * b
regroup a b c d = simp (mul_assoc, mul_comm, mul_left_comm) refl

-- class r times class s, read at a place that is r + s modulo 4: the coefficient of the carryless product
module _ (x y r s : ℕ) (hr : r < 4) (hs : s < 4) where
  cell_coef : (k : ℕ) → k ≤ 15 → coef (cells r x * cells s y) (k * 4) ≡ coef (cmul (cells r x) y) (k * 4 + s)
  cell_coef k l =
      counts_coef s 15 1 _ _ k l
      (mul_counts s hs r 15 (cells r x) x (cells s y) y (lit≤ tt) (picks_ones r 15 x (x / 2 ^ r) refl) (picks_ones s 15 y (y / 2 ^ s) refl))

  product : class r x * class s y ≡ cells r x * cells s y * 2 ^ s * 2 ^ r
  product = ap₂ ◌*◌ (class-cells r x) (class-cells s y) ∙ regroup (cells r x) (2 ^ r) (cells s y) (2 ^ s)

  cproduct : cmul (class r x) y ≡ cmul (cells r x) y * 2 ^ r
  cproduct =
      ap (λ (a : ℕ). cmul a y) (class-cells r x) ∙ cmul_comm (cells r x * 2 ^ r) y ∙ cmul-pow_r y (cells r x) r
      ∙ ap (λ (a : ℕ). a * 2 ^ r) (cmul_comm y (cells r x))

  pub class-coef : (i : ℕ) → i < 64 → i % 4 ≡ (r + s) % 4 → coef (class r x * class s y) i ≡ coef (cmul (class r x) y) i
  class-coef i hi e = rw (product, cproduct) (go (dec_lt i r))
    where
      go : Dec (i < r) → coef (cells r x * cells s y * 2 ^ s * 2 ^ r) i ≡ coef (cmul (cells r x) y * 2 ^ r) i
      go (yes h) = coef-shl_low (cells r x * cells s y * 2 ^ s) r i h ∙ sym (coef-shl_low (cmul (cells r x) y) r i h)
      go (no f) =
          let k = (i - (r + s)) / 4 in
          let l : k ≤ 15 = omega arith in
          let u : i ≡ r + (s + k * 4) = omega arith in
          let v : r + (k * 4 + s) ≡ i = omega arith in
          ap (coef (cells r x * cells s y * 2 ^ s * 2 ^ r)) u
          ∙ coef-shl (cells r x * cells s y * 2 ^ s) r (s + k * 4) ∙ coef-shl (cells r x * cells s y) s (k * 4)
          ∙ cell_coef k l
          ∙ sym (coef-shl (cmul (cells r x) y) r (k * 4 + s)) ∙ ap (coef (cmul (cells r x) y * 2 ^ r)) v
