-- The low half of the carryless product of two words, by sixteen integer products of residue classes.
use mathlib.Core.Path.{◌≡◌, sym, ap, ap₂, ◌∙◌}
use mathlib.Core.Bool.{Bool, true, false}
use Prim.Native.Nat.{ℕ, zero, suc, ◌+◌, ◌-◌, ◌*◌, ◌/◌, ◌%◌, ◌^◌, ◌<◌}
use native.Mathlib.Nat.{mod-lt, lt_of_le_of_lt, mul-zero, mul-one}
use native.Mathlib.Omega.{arith}
use lib.Pow.{pow_pos}
use lib.Bits.{xor_lt, xor_zero_r, and_le_r}
use lib.Dec.{T, eqb, eqb→eq, lit<}
use Rattle.gf2.specs.Poly.{◌⊕◌, coef, cmul}
use Rattle.gf2.proofs.Shift.{coef-xor, ext_below}
use Rattle.gf2.proofs.Cmul.{cmul-xor_l}
use Rattle.gf2.proofs.Linear.{all, all_at}
use Rattle.gf2.proofs.Bits.{coef-and, coef_low}
use Rattle.clmul.proofs.Classes.{class, class-coef}

-- a number below four
by_four : (P : ℕ → Type 0) → P 0 → P 1 → P 2 → P 3 → {m : ℕ} → m < 4 → P m
by_four P a b c d {m = zero} h = a
by_four P a b c d {m = suc zero} h = b
by_four P a b c d {m = suc (suc zero)} h = c
by_four P a b c d {m = suc (suc (suc zero))} h = d
by_four P a b c d {m = suc (suc (suc (suc m)))} h = let f : ⊥ = omega arith in absurd f

-- ---- the masks: the mask of class t has bit i where i is t modulo 4

abbrev same : ℕ → ℕ → ℕ
same m t = elim (eqb m t) [ true ↦ 1 | false ↦ 0 ]

mask_at : ℕ → ℕ → Bool
mask_at t i = eqb (0x1111111111111111 * 2 ^ t / 2 ^ i % 2) (same (i % 4) t)

mask_law : (t : ℕ) → T (all 64 (mask_at t)) → (i : ℕ) → i < 64 → coef (0x1111111111111111 * 2 ^ t) i ≡ same (i % 4) t
unfolding mask_at coef
mask_law t w i h = eqb→eq _ _ (all_at 64 (mask_at t) w i h)

class-bit : (t : ℕ) → T (all 64 (mask_at t)) → (z i : ℕ) → i < 64 → coef (class t z) i ≡ coef z i * same (i % 4) t
class-bit t w z i h = coef-and z (0x1111111111111111 * 2 ^ t) i ∙ ap (λ (x : ℕ). coef z i * x) (mask_law t w i h)

class_bits : (z i : ℕ) → i < 64 → (t : ℕ) → t < 4 → coef (class t z) i ≡ coef z i * same (i % 4) t
unfolding mask_at all
class_bits z i h t l =
    by_four (λ (t : ℕ). coef (class t z) i ≡ coef z i * same (i % 4) t)
    (class-bit 0 tt z i h) (class-bit 1 tt z i h) (class-bit 2 tt z i h) (class-bit 3 tt z i h) l

class-lt : (z : ℕ) (t : ℕ) → t < 4 → class t z < 2 ^ 64
class-lt z t l = by_four (λ (t : ℕ). class t z < 2 ^ 64) (cut 0 (lit< tt)) (cut 1 (lit< tt)) (cut 2 (lit< tt)) (cut 3 (lit< tt)) l
  where
    cut : (t : ℕ) → 0x1111111111111111 * 2 ^ t < 2 ^ 64 → class t z < 2 ^ 64
    cut t h = lt_of_le_of_lt (and_le_r z (0x1111111111111111 * 2 ^ t)) h

-- ---- sums of four

abbrev four : (ℕ → ℕ) → ℕ
four f = f 0 ⊕ f 1 ⊕ f 2 ⊕ f 3

coef-four : (f : ℕ → ℕ) (i : ℕ) → coef (four f) i ≡ four (λ r. coef (f r) i)
coef-four f i = simp coef-xor

four-lt : (f : ℕ → ℕ) → ((r : ℕ) → r < 4 → f r < 2 ^ 64) → four f < 2 ^ 64
four-lt f h = xor_lt 64 _ _ (xor_lt 64 _ _ (xor_lt 64 _ _ (h 0 (lit< tt)) (h 1 (lit< tt))) (h 2 (lit< tt))) (h 3 (lit< tt))

-- term by term
four_same : {f g : ℕ → ℕ} → ((r : ℕ) → r < 4 → f r ≡ g r) → four f ≡ four g
four_same h = ap₂ ◌⊕◌ (ap₂ ◌⊕◌ (ap₂ ◌⊕◌ (h 0 (lit< tt)) (h 1 (lit< tt))) (h 2 (lit< tt))) (h 3 (lit< tt))

-- the one term that `same` picks
four-pick : (f : ℕ → ℕ) {m : ℕ} → m < 4 → four (λ t. f t * same m t) ≡ f m
four-pick f h =
    by_four (λ (m : ℕ). four (λ t. f t * same m t) ≡ f m)
    (simp (mul-zero, mul-one, xor_zero_r)) (simp (mul-zero, mul-one, xor_zero_r))
    (simp (mul-zero, mul-one, xor_zero_r)) (simp (mul-zero, mul-one)) h

-- ---- four words side by side: from each its own class

abbrev pub weave : (ℕ → ℕ) → ℕ
weave z = four (λ t. class t (z t))

weave-coef : (z : ℕ → ℕ) (i : ℕ) → i < 64 → coef (weave z) i ≡ coef (z (i % 4)) i
weave-coef z i l =
    coef-four (λ t. class t (z t)) i ∙ four_same {g = λ t. coef (z t) i * same (i % 4) t} (λ t h. class_bits (z t) i l t h)
    ∙ four-pick (λ t. coef (z t) i) (mod-lt i (lit< tt))

weave-lt : (z : ℕ → ℕ) → weave z < 2 ^ 64
weave-lt z = four-lt (λ t. class t (z t)) (λ t h. class-lt (z t) t h)

-- a word is the sum of its classes
classes : (x : ℕ) → x < 2 ^ 64 → weave (λ t. x) ≡ x
classes x h = ext_below 64 (weave (λ t. x)) x (weave-lt (λ t. x)) h (weave-coef (λ t. x))

-- ---- one residue of the product: the products of class r of x by class s r of y, where r + s r is that residue

abbrev pub row : ℕ → ℕ → (ℕ → ℕ) → ℕ
row x y s = four (λ r. class r x * class (s r) y % 2 ^ 64)

row-coef : (x y : ℕ) → x < 2 ^ 64 → (s : ℕ → ℕ) (i : ℕ) → i < 64
    → ((r : ℕ) → r < 4 → (s r < 4) × (i % 4 ≡ (r + s r) % 4)) → coef (row x y s) i ≡ coef (cmul x y) i
row-coef x y hx s i l h =
    coef-four (λ r. class r x * class (s r) y % 2 ^ 64) i
    ∙ four_same one
    ∙ sym (coef-four (λ r. cmul (class r x) y) i)
    ∙ ap (λ (z : ℕ). coef z i) (sym (sums (class 0 x) (class 1 x) (class 2 x) (class 3 x)) ∙ ap (λ (z : ℕ). cmul z y) (classes x hx))
  where
    one : (r : ℕ) → r < 4 → coef (class r x * class (s r) y % 2 ^ 64) i ≡ coef (cmul (class r x) y) i
    one r g = coef_low (class r x * class (s r) y) 64 i l ∙ class-coef x y r (s r) g (h r g).0 i l (h r g).1

    sums : (a b c d : ℕ) → cmul (a ⊕ b ⊕ c ⊕ d) y ≡ cmul a y ⊕ cmul b y ⊕ cmul c y ⊕ cmul d y
    sums a b c d = simp cmul-xor_l

-- ---- the law

abbrev pub bmul : ℕ → ℕ → ℕ
bmul x y = weave (λ t. row x y (λ r. (t + (4 - r)) % 4))

pub bmul_law : (x y : ℕ) → x < 2 ^ 64 → bmul x y ≡ cmul x y % 2 ^ 64
bmul_law x y hx =
    ext_below 64 (bmul x y) (cmul x y % 2 ^ 64) (weave-lt (λ t. row x y (λ r. (t + (4 - r)) % 4))) (mod-lt (cmul x y) (pow_pos 64))
    (λ i l. weave-coef (λ t. row x y (λ r. (t + (4 - r)) % 4)) i l
    ∙ row-coef x y hx (λ r. (i % 4 + (4 - r)) % 4) i l (λ r h. (omega arith, omega arith))
    ∙ sym (coef_low (cmul x y) 64 i l))

-- the same of sixteen products by name, in the program's order: p r s is class r times class s
pub bmul_of : (x y : ℕ) → x < 2 ^ 64 → {p00 p13 p22 p31 p01 p10 p23 p32 p02 p11 p20 p33 p03 p12 p21 p30 : ℕ}
    → p00 ≡ class 0 x * class 0 y % 2 ^ 64 → p13 ≡ class 1 x * class 3 y % 2 ^ 64 → p22 ≡ class 2 x * class 2 y % 2 ^ 64 → p31 ≡ class 3 x * class 1 y % 2 ^ 64
    → p01 ≡ class 0 x * class 1 y % 2 ^ 64 → p10 ≡ class 1 x * class 0 y % 2 ^ 64 → p23 ≡ class 2 x * class 3 y % 2 ^ 64 → p32 ≡ class 3 x * class 2 y % 2 ^ 64
    → p02 ≡ class 0 x * class 2 y % 2 ^ 64 → p11 ≡ class 1 x * class 1 y % 2 ^ 64 → p20 ≡ class 2 x * class 0 y % 2 ^ 64 → p33 ≡ class 3 x * class 3 y % 2 ^ 64
    → p03 ≡ class 0 x * class 3 y % 2 ^ 64 → p12 ≡ class 1 x * class 2 y % 2 ^ 64 → p21 ≡ class 2 x * class 1 y % 2 ^ 64 → p30 ≡ class 3 x * class 0 y % 2 ^ 64
    → class 0 (p00 ⊕ p13 ⊕ p22 ⊕ p31) ⊕ class 1 (p01 ⊕ p10 ⊕ p23 ⊕ p32) ⊕ class 2 (p02 ⊕ p11 ⊕ p20 ⊕ p33) ⊕ class 3 (p03 ⊕ p12 ⊕ p21 ⊕ p30) ≡ cmul x y % 2 ^ 64
bmul_of x y hx e00 e13 e22 e31 e01 e10 e23 e32 e02 e11 e20 e33 e03 e12 e21 e30 =
    (λ i. class 0 (e00 i ⊕ e13 i ⊕ e22 i ⊕ e31 i) ⊕ class 1 (e01 i ⊕ e10 i ⊕ e23 i ⊕ e32 i) ⊕ class 2 (e02 i ⊕ e11 i ⊕ e20 i ⊕ e33 i) ⊕ class 3 (e03 i ⊕ e12 i ⊕ e21 i ⊕ e30 i))
    ∙ bmul_law x y hx
