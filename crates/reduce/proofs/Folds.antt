-- The remainder modulo x^n + t by two folds, over the width, and the folds by shifts for a tail t of four terms.
use mathlib.Core.Path.{◌≡◌, sym, ap, ◌∙◌}
use Prim.Native.Nat.{ℕ, zero, suc, ◌+◌, ◌*◌, ◌/◌, ◌%◌, ◌^◌, ◌≤◌, ◌<◌}
use native.Mathlib.Nat.{mod-lt, mod-eq_of_lt, div-eq_of_lt, lt_of_lt_of_le, add_comm, suc-add}
use native.Mathlib.Omega.{arith}
use lib.Arith.{lt-one}
use lib.Pow.{pow-lt, pow_pos, pow_mono, shr_lt, shr-shr, shl-shr}
use lib.Bits.{xor_zero_r, xor_lt, xor_shr, xor_mod, xor_shifted}
use Rattle.gf2.specs.Poly.{◌⊕◌, cmul}
use Rattle.gf2.specs.Residue.{rem}
use Rattle.reduce.specs.Tail.{tail}
use Rattle.gf2.proofs.Xor.{xor_assoc, xor-ring}
use Rattle.gf2.proofs.Shift.{xor_split}
use Rattle.gf2.proofs.Cmul.{cmul-lt, cmul-zero_l, cmul-xor_r, cmul-pow, cmul-one_r}
use Rattle.gf2.proofs.Rem.{rem_low}
use Rattle.gf2.proofs.Fold.{rem-fold}

-- the high part times t: what stays below x^n, and what spills over, times t
pub rem_two_folds : (n t hi lo : ℕ) → t < 2 ^ n → lo < 2 ^ n → cmul (cmul hi t / 2 ^ n) t < 2 ^ n
    → rem n t (hi * 2 ^ n + lo) ≡ lo ⊕ cmul hi t % 2 ^ n ⊕ cmul (cmul hi t / 2 ^ n) t
rem_two_folds n t hi lo ht hl hs =
    let f = cmul hi t in
    let s = cmul (f / 2 ^ n) t in
    let e : f ⊕ lo ≡ f / 2 ^ n * 2 ^ n ⊕ (f % 2 ^ n ⊕ lo) =
    ap (λ (x : ℕ). x ⊕ lo) (sym (xor_split f n)) ∙ xor_assoc (f / 2 ^ n * 2 ^ n) (f % 2 ^ n) lo in
    let g : s ⊕ (f % 2 ^ n ⊕ lo) ≡ lo ⊕ f % 2 ^ n ⊕ s = simp xor-ring in
    ap (rem n t) (sym (xor_shifted hi n lo hl)) ∙ rem-fold n t ht hi lo ∙ ap (rem n t) e
    ∙ rem-fold n t ht (f / 2 ^ n) (f % 2 ^ n ⊕ lo)
    ∙ rem_low n t (s ⊕ (f % 2 ^ n ⊕ lo)) (xor_lt n s (f % 2 ^ n ⊕ lo) hs (xor_lt n (f % 2 ^ n) lo (mod-lt f (pow_pos n)) hl))
    ∙ g

-- ---- a tail of degree i, of which twice is within the width: what spills over has i bits, so that folding it spills nothing

cmul_below : (n i : ℕ) {h t : ℕ} → h < 2 ^ n → t < 2 ^ suc i → cmul h t < 2 ^ (n + i)
cmul_below zero i {h} {t} l ht = rw (lt-one l, cmul-zero_l t) (pow_pos (0 + i))
cmul_below (suc m) i l ht = rw suc-add (cmul-lt m i l ht)

module _ (n i t : ℕ) (ht : t < 2 ^ suc i) (hi : i + i ≤ n) where
  pub spilled-lt : (h : ℕ) → h < 2 ^ n → cmul h t / 2 ^ n < 2 ^ i
  spilled-lt h l = shr_lt i n (rw add_comm at (cmul_below n i l ht))

  pub refolded-lt : (h : ℕ) → h < 2 ^ n → cmul (cmul h t / 2 ^ n) t < 2 ^ n
  refolded-lt h l = lt_of_lt_of_le (cmul_below i i (spilled-lt h l) ht) (pow_mono hi)

  pub refolded : (h : ℕ) → h < 2 ^ n → cmul (cmul h t / 2 ^ n) t % 2 ^ n ≡ cmul (cmul h t / 2 ^ n) t
  refolded h l = mod-eq_of_lt (refolded-lt h l)

  -- two folds, each in a word of n bits
  pub rem-folded : (hi lo : ℕ) → hi < 2 ^ n → lo < 2 ^ n → t < 2 ^ n
      → rem n t (hi * 2 ^ n + lo) ≡ lo ⊕ cmul hi t % 2 ^ n ⊕ cmul (cmul hi t / 2 ^ n) t % 2 ^ n
  rem-folded hi lo hh hl l =
      rem_two_folds n t hi lo l hl (refolded-lt hi hh) ∙ ap (λ (x : ℕ). lo ⊕ cmul hi t % 2 ^ n ⊕ x) (sym (refolded hi hh))

-- ---- t = x^i + x^j + x^k + 1

-- times t in a word of n bits
abbrev pub shifts : ℕ → ℕ → ℕ → ℕ → ℕ → ℕ
shifts n i j k h = h * 2 ^ i % 2 ^ n ⊕ h * 2 ^ j % 2 ^ n ⊕ h * 2 ^ k % 2 ^ n ⊕ h

-- what that pushes out at the top, where i + p, j + q and k + r are n
abbrev pub spill : ℕ → ℕ → ℕ → ℕ → ℕ
spill p q r h = h / 2 ^ p ⊕ h / 2 ^ q ⊕ h / 2 ^ r

cmul-tail : (i j k h : ℕ) → cmul h (tail i j k) ≡ h * 2 ^ i ⊕ h * 2 ^ j ⊕ h * 2 ^ k ⊕ h
cmul-tail i j k h = simp (cmul-xor_r, cmul-pow, cmul-one_r)

pub shifts_is : (n i j k h : ℕ) → h < 2 ^ n → shifts n i j k h ≡ cmul h (tail i j k) % 2 ^ n
shifts_is n i j k h l =
    sym (ap (λ (x : ℕ). x % 2 ^ n) (cmul-tail i j k h) ∙ simp (xor_mod, mod-eq_of_lt l))

shl-shr_top : (n i p h : ℕ) → i + p ≡ n → h * 2 ^ i / 2 ^ n ≡ h / 2 ^ p
shl-shr_top n i p h e =
    ap (λ (x : ℕ). h * 2 ^ i / 2 ^ x) (sym e) ∙ sym (shr-shr (h * 2 ^ i) i p) ∙ ap (λ (x : ℕ). x / 2 ^ p) (shl-shr h i)

module _ (n i j k p q r : ℕ) (ei : i + p ≡ n) (ej : j + q ≡ n) (ek : k + r ≡ n) where
  pub spill_is : (h : ℕ) → h < 2 ^ n → spill p q r h ≡ cmul h (tail i j k) / 2 ^ n
  spill_is h l =
      sym (ap (λ (x : ℕ). x / 2 ^ n) (cmul-tail i j k h)
      ∙ simp (xor_shr, shl-shr_top n i p h ei, shl-shr_top n j q h ej, shl-shr_top n k r h ek, div-eq_of_lt l, xor_zero_r))

  module _ (hj : j ≤ i) (hk : k ≤ i) (hn : i + i ≤ n) where
    pub tail-lt : tail i j k < 2 ^ suc i
    tail-lt =
        xor_lt (suc i) _ 1
        (xor_lt (suc i) _ (2 ^ k) (xor_lt (suc i) (2 ^ i) (2 ^ j) (pow-lt (omega arith)) (pow-lt (omega arith))) (pow-lt (omega arith)))
        (pow-lt {i = 0} (omega arith))

    pub shifts_spill : (h : ℕ) → h < 2 ^ n → shifts n i j k (spill p q r h) ≡ cmul (cmul h (tail i j k) / 2 ^ n) (tail i j k) % 2 ^ n
    shifts_spill h l =
        rw (spill_is h l)
        (shifts_is n i j k (cmul h (tail i j k) / 2 ^ n) (lt_of_lt_of_le (spilled-lt n i (tail i j k) tail-lt hn h l) (pow_mono (omega arith))))

    -- the two folds by shifts
    pub rem-shifts : tail i j k < 2 ^ n → (hi lo : ℕ) → hi < 2 ^ n → lo < 2 ^ n
        → rem n (tail i j k) (hi * 2 ^ n + lo) ≡ lo ⊕ shifts n i j k hi ⊕ shifts n i j k (spill p q r hi)
    rem-shifts ht hi lo hh hl =
        rw (shifts_is n i j k hi hh, shifts_spill hi hh) (rem-folded n i (tail i j k) tail-lt hn hi lo hh hl ht)
