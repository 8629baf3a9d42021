-- Maps that keep XOR: two that agree on the powers of x agree everywhere, and that is a computed test.
use mathlib.Core.Path.{◌≡◌, refl, sym, ap, ap₂, ◌∙◌}
use mathlib.Core.Bool.{Bool, true, false, ◌&&◌}
use mathlib.Core.List.{List, [], ◌∷◌}
use Prim.Native.Nat.{ℕ, zero, suc, ◌*◌, ◌/◌, ◌%◌, ◌^◌, ◌<◌}
use native.Mathlib.Nat.{zero-mul, one-mul, mod-lt, mod-le, div-mul-le_self, lt_of_le_of_lt, lt_trans, le_refl, le_step, eq-or-lt_of_le, le_of_suc-le-suc, not-suc-le-zero}
use lib.Arith.{lt-one}
use lib.Pow.{pow_pos, pow-lt}
use lib.Bits.{xor_self}
use lib.Dec.{T, eqb, eqb→eq}
use mathlib.Core.Logic.{◌⊎◌, inl, inr}
use Rattle.gf2.specs.Poly.{◌⊕◌}
use Rattle.gf2.specs.Linear.{Additive, apply}
use Rattle.gf2.proofs.Xor.{bit_elim, bit-lt, xor_half, xor-bit, xor_medial, xor_cancel}
use Rattle.gf2.proofs.Shift.{xor_bits, xor_split, top_lt}

pub additive_zero : (n : ℕ) (f : ℕ → ℕ) → Additive n f → f 0 ≡ 0
additive_zero n f h = sym (xor_cancel (f 0) (f 0)) ∙ ap (λ (x : ℕ). f 0 ⊕ x) (sym (h 0 0 (pow_pos n) (pow_pos n))) ∙ xor_self (f 0)

pub additive_less : (n : ℕ) (f : ℕ → ℕ) → Additive (suc n) f → Additive n f
additive_less n f h a b ha hb = h a b (lt_trans ha (pow-lt (le_refl (suc n)))) (lt_trans hb (pow-lt (le_refl (suc n))))

-- the top bit and the rest
additive_split : (n : ℕ) (f : ℕ → ℕ) → Additive (suc n) f → (a : ℕ) → a < 2 ^ suc n
    → f a ≡ f (a / 2 ^ n * 2 ^ n) ⊕ f (a % 2 ^ n)
additive_split n f h a ha =
    ap f (sym (xor_split a n)) ∙ h _ _ (lt_of_le_of_lt (div-mul-le_self a (2 ^ n)) ha) (lt_of_le_of_lt (mod-le a (2 ^ n)) ha)

pub linear_ext : (n : ℕ) (f g : ℕ → ℕ) → Additive n f → Additive n g → ((i : ℕ) → i < n → f (2 ^ i) ≡ g (2 ^ i))
    → (a : ℕ) → a < 2 ^ n → f a ≡ g a
linear_ext zero f g hf hg e a ha = ap f (lt-one ha) ∙ additive_zero 0 f hf ∙ sym (additive_zero 0 g hg) ∙ ap g (sym (lt-one ha))
linear_ext (suc n) f g hf hg e a ha =
    additive_split n f hf a ha
    ∙ ap₂ ◌⊕◌
    (bit_elim (λ (q : ℕ). f (q * 2 ^ n) ≡ g (q * 2 ^ n))
    (simp zero-mul (additive_zero (suc n) f hf ∙ sym (additive_zero (suc n) g hg))) (simp one-mul (e n (le_refl (suc n)))) (top_lt n ha))
    (linear_ext n f g (additive_less n f hf) (additive_less n g hg) (λ i l. e i (le_step l)) (a % 2 ^ n) (mod-lt a (pow_pos n)))
    ∙ sym (additive_split n g hg a ha)

-- ---- a test at each i < n

unfoldable pub all : ℕ → (ℕ → Bool) → Bool
all zero p = true
all (suc n) p = p n && all n p

pub and_l : (a b : Bool) → T (a && b) → T a
and_l true b h = tt
and_l false b h = h

pub and_r : (a b : Bool) → T (a && b) → T b
and_r true b h = h
and_r false b h = absurd h

pub all_at : (n : ℕ) (p : ℕ → Bool) → T (all n p) → (i : ℕ) → i < n → T (p i)
unfolding all
all_at zero p h i l = absurd (not-suc-le-zero l)
all_at (suc n) p h i l = pick (all_at n p (and_r (p n) (all n p) h) i) (eq-or-lt_of_le (le_of_suc-le-suc l))
  where
    pick : (i < n → T (p i)) → (i ≡ n) ⊎ (i < n) → T (p i)
    pick f (inl e) = rw e (and_l (p n) (all n p) h)
    pick f (inr k) = f k

-- `linear_ext` by a test
pub linear_test : (n : ℕ) (f g : ℕ → ℕ) → Additive n f → Additive n g → T (all n (λ i. eqb (f (2 ^ i)) (g (2 ^ i))))
    → (a : ℕ) → a < 2 ^ n → f a ≡ g a
linear_test n f g hf hg h =
    linear_ext n f g hf hg (λ i l. eqb→eq (f (2 ^ i)) (g (2 ^ i)) (all_at n (λ i. eqb (f (2 ^ i)) (g (2 ^ i))) h i l))

-- ---- the map with a given list of columns: column i is the image of x^i

pub apply-xor : (cs : List ℕ) (a b : ℕ) → apply cs (a ⊕ b) ≡ apply cs a ⊕ apply cs b
unfolding apply
apply-xor [] a b = refl
apply-xor (c ∷ cs) a b =
    simp (xor_half, xor-bit, xor_bits (bit-lt a) (bit-lt b), apply-xor cs (a / 2) (b / 2))
    (xor_medial (a % 2 * c) (b % 2 * c) (apply cs (a / 2)) (apply cs (b / 2)))

pub apply-zero : (cs : List ℕ) → apply cs 0 ≡ 0
apply-zero cs = additive_zero 0 (apply cs) (λ a b ha hb. apply-xor cs a b)
