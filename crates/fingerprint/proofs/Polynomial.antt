-- The fingerprint is the value at the point of the polynomial whose coefficients are the words: the first stands at the
-- highest power, and there is no constant term.
use mathlib.Core.Path.{◌≡◌, refl, sym, ap, ◌∙◌}
use mathlib.Core.List.{List, [], ◌∷◌, foldl}
use Prim.Native.Nat.{ℕ, ◌-◌, ◌^◌, ◌<◌}
use native.Mathlib.Nat.{suc-sub-suc, sub-zero}
use lib.Bits.{xor_zero_r}
use lib.Dec.{lit<}
use lib.ListN.{length, get_or}
use Rattle.gf2.specs.Poly.{◌⊕◌, xsum}
use Rattle.gf2.specs.Residue.{mul, pow}
use Rattle.gf2.proofs.Xor.{xor_assoc}
use Rattle.gf2.proofs.Ring.{mul-zero_l, mul-one_r, mul-xor_l, mul-lt, mul_assoc}
use Rattle.fingerprint.specs.Print.{step, print_of}

module _ (n t : ℕ) (ht : t < 2 ^ n) where
  -- Horner's rule, from a sum that is already there
  pub horner : (k a : ℕ) (ws : List ℕ) → a < 2 ^ n
      → foldl (λ (s w : ℕ). mul n t (s ⊕ w) k) a ws
      ≡ mul n t a (pow n t k (length ws)) ⊕ xsum (length ws) (λ i. mul n t (get_or ws i 0) (pow n t k (length ws - i)))
  unfolding xsum pow
  horner k a [] h = sym (xor_zero_r (mul n t a 1) ∙ mul-one_r n t a h)
  horner k a (w ∷ ws) h =
      let P = pow n t k (length ws) in
      let rest = xsum (length ws) (λ i. mul n t (get_or ws i 0) (pow n t k (length ws - i))) in
      horner k (mul n t (a ⊕ w) k) ws (mul-lt n t ht (a ⊕ w) k)
      ∙ ap (λ (x : ℕ). x ⊕ rest) (mul_assoc n t ht (a ⊕ w) k P ∙ mul-xor_l n t a w (mul n t k P))
      ∙ xor_assoc (mul n t a (mul n t k P)) (mul n t w (mul n t k P)) rest ∙ sym (simp (suc-sub-suc, sub-zero) refl)

-- the coefficient of the point to the power n - i is word i
pub print_is : (words : List ℕ) (point : ℕ)
    → print_of words point ≡ xsum (length words) (λ i. mul 64 0x1b (get_or words i 0) (pow 64 0x1b point (length words - i)))
unfolding print_of step
print_is words point =
    horner 64 0x1b (lit< tt) point 0 words (lit< tt)
    ∙ ap (λ (x : ℕ). x ⊕ xsum (length words) (λ i. mul 64 0x1b (get_or words i 0) (pow 64 0x1b point (length words - i))))
    (mul-zero_l 64 0x1b (pow 64 0x1b point (length words)))
