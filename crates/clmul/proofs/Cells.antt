-- Carryless products by integer products. A number is read in cells of four bits. Of an operand whose cells hold one
-- bit each, cell k of its integer product with another such number is a sum of at most k + 1 ones: it does not carry
-- while k < 15, and its lowest bit is the coefficient of the carryless product. In cell 15 only that bit is asked for.
use mathlib.Core.Path.{◌≡◌, sym, ap, ap₂, ◌∙◌}
use Prim.Native.Nat.{ℕ, zero, suc, ◌+◌, ◌*◌, ◌/◌, ◌%◌, ◌≤◌, ◌<◌}
use native.Mathlib.Nat.{zero-mul, one-mul, add-mul, mul_assoc, mul_comm, div-add-mod', mul-div_cancel, zero-add, le_of_suc-le-suc, not-suc-le-zero}
use native.Mathlib.Omega.{arith}
use lib.Bits.{xor_shr}
use lib.Dec.{lit<}
use Rattle.gf2.specs.Poly.{◌⊕◌, coef, cmul}
use Rattle.gf2.proofs.Xor.{bit_elim, bit-lt}
use Rattle.gf2.proofs.Shift.{coef-zero, coef-lt, coef-xor, xor_split}
use Rattle.gf2.proofs.Coef.{coef-nil, bit-sum}
use Rattle.gf2.proofs.Cmul.{cmul-bit, cmul-xor_l, cmul-pow_r, cmul_comm}
use Rattle.gf2.proofs.Bits.{coef-shr, coef-shl_low}

-- s holds, in each of its n + 1 low cells, bit j of the same cell of t and nothing else
abbrev pub Picks : ℕ → ℕ → ℕ → ℕ → Type 0
Picks j zero s t = s % 16 ≡ coef t j
Picks j (suc n) s t = (s % 16 ≡ coef t j) × Picks j n (s / 16) (t / 16)

-- in n low cells p is at most b, b + 1, b + 2, ..; in one more cell too, the lowest bit of p is bit j of q
abbrev pub Counts : ℕ → ℕ → ℕ → ℕ → ℕ → Type 0
Counts j zero b p q = p % 2 ≡ coef q j
Counts j (suc n) b p q = (p % 16 ≤ b) × (p % 2 ≡ coef q j) × Counts j n (suc b) (p / 16) (q / 16)

parity : (j p q s t : ℕ) → p % 2 ≡ coef q j → s % 16 ≡ coef t j → (p + s) % 2 ≡ coef (q ⊕ t) j
parity j p q s t e f =
    let h : s % 16 < 2 = rw f (coef-lt t j) in
    let g : (p + s) % 2 ≡ (p % 2 + s % 16) % 2 = omega arith in
    g ∙ bit-sum (bit-lt p) h ∙ ap₂ ◌⊕◌ e f ∙ sym (coef-xor q t j)

-- one more row
pub add_row : (j n b p q s t : ℕ) → b + n ≤ 15 → Counts j n b p q → Picks j n s t → Counts j n (suc b) (p + s) (q ⊕ t)
add_row j zero b p q s t l c d = parity j p q s t c d
add_row j (suc n) b p q s t l c d =
    let h : s % 16 < 2 = rw d.0 (coef-lt t j) in
    let k : p % 16 ≤ b = c.0 in
    let e : (p + s) / 16 ≡ p / 16 + s / 16 = omega arith in (
      omega arith,
      parity j p q s t c.1 d.0,
      rw (e, xor_shr q t 4) (add_row j n (suc b) (p / 16) (q / 16) (s / 16) (t / 16) (omega arith) c.2 d.1),
    )

-- ---- the rows of a product

nothing : (j n : ℕ) → Picks j n 0 0
nothing j zero = sym (coef-nil j)
nothing j (suc n) = (sym (coef-nil j), nothing j n)

scale : (j n : ℕ) {x : ℕ} (s t : ℕ) → x < 2 → Picks j n s t → Picks j n (x * s) (x * t)
scale j n s t h d = bit_elim (λ (x : ℕ). Picks j n (x * s) (x * t)) (simp zero-mul (nothing j n)) (simp one-mul d) h

fewer : (j n s t : ℕ) → Picks j (suc n) s t → Picks j n s t
fewer j zero s t d = d.0
fewer j (suc n) s t d = (d.0, fewer j n (s / 16) (t / 16) d.1)

pub picks_bit : (j n s t : ℕ) → Picks j n s t → s % 16 < 2
picks_bit j zero s t d = rw d (coef-lt t j)
picks_bit j (suc n) s t d = rw d.0 (coef-lt t j)

-- a product's rows but the lowest: one cell further up
module _ (j : ℕ) (h : j < 4) where
  even : (p q : ℕ) → (p * 16) % 2 ≡ coef (q * 16) j
  even p q = let e : (p * 16) % 2 ≡ 0 = omega arith in e ∙ sym (coef-shl_low q 4 j h)

  up : (n p q : ℕ) → Counts j n 1 p q → Counts j (suc n) 0 (p * 16) (q * 16)
  up n p q c = (omega arith, even p q, rw (mul-div_cancel p {n = 16} (lit< tt), mul-div_cancel q {n = 16} (lit< tt)) c)

  rows : (a s : ℕ) → a * s ≡ a / 16 * s * 16 + a % 16 * s
  rows a s =
      ap (λ (x : ℕ). x * s) (sym (div-add-mod' a 16)) ∙ add-mul (a / 16 * 16) (a % 16) s
      ∙ ap (λ (x : ℕ). x + a % 16 * s) (simp (mul_assoc, mul_comm 16 s))

  crows : (a t : ℕ) → a % 16 < 2 → cmul a t ≡ cmul (a / 16) t * 16 ⊕ a % 16 * t
  crows a t h =
      ap (λ (x : ℕ). cmul x t) (sym (xor_split a 4)) ∙ cmul-xor_l (a / 16 * 16) (a % 16) t
      ∙ ap₂ ◌⊕◌ (cmul_comm (a / 16 * 16) t ∙ cmul-pow_r t (a / 16) 4 ∙ ap (λ (x : ℕ). x * 16) (cmul_comm t (a / 16))) (cmul-bit h t)

  pub mul_counts : (i n a x s t : ℕ) → n ≤ 15 → Picks i n a x → Picks j n s t → Counts j n 1 (a * s) (cmul a t)
  mul_counts i zero a x s t l c d =
      rw (rows a s, crows a t (picks_bit i 0 a x c))
      (add_row j 0 0 _ _ _ _ (omega arith) (even (a / 16 * s) (cmul (a / 16) t)) (scale j 0 s t (picks_bit i 0 a x c) d))
  mul_counts i (suc n) a x s t l c d =
      rw (rows a s, crows a t (picks_bit i (suc n) a x c))
      (add_row j (suc n) 0 _ _ _ _ (omega arith)
      (up n _ _ (mul_counts i n (a / 16) (x / 16) s t (omega arith) c.1 (fewer j n s t d)))
      (scale j (suc n) s t (picks_bit i (suc n) a x c) d))

-- the lowest bit of each cell
pub counts_coef : (j n b p q k : ℕ) → k ≤ n → Counts j n b p q → coef p (k * 4) ≡ coef q (k * 4 + j)
counts_coef j zero b p q zero l c = coef-zero p ∙ c ∙ ap (coef q) (sym (zero-add j))
counts_coef j zero b p q (suc k) l c = absurd (not-suc-le-zero l)
counts_coef j (suc n) b p q zero l c = coef-zero p ∙ c.1 ∙ ap (coef q) (sym (zero-add j))
counts_coef j (suc n) b p q (suc k) l c =
    let e : suc k * 4 ≡ 4 + k * 4 = omega arith in
    let f : 4 + (k * 4 + j) ≡ suc k * 4 + j = omega arith in
    ap (coef p) e ∙ sym (coef-shr p 4 (k * 4)) ∙ counts_coef j n (suc b) (p / 16) (q / 16) k (le_of_suc-le-suc l) c.2
    ∙ coef-shr q 4 (k * 4 + j) ∙ ap (coef q) f
