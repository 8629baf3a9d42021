-- What follows from the one law that a residue other than 0, times its inverse, is 1: the inverse is the only one, a
-- product is zero only if a factor is, and squaring keeps different residues apart.
use mathlib.Core.Path.{◌≡◌, sym, ap, ◌∙◌}
use mathlib.Core.Logic.{◌≢◌, ◌⊎◌, inl, inr}
use Prim.Native.Nat.{ℕ, ◌^◌, ◌<◌}
use native.Mathlib.Decide.{ℕ_discrete}
use native.Mathlib.Omega.{arith}
use lib.Bits.{xor_self, xor_lt}
use Rattle.gf2.specs.Poly.{◌⊕◌}
use Rattle.gf2.specs.Residue.{mul, sq, inv}
use Rattle.gf2.proofs.Xor.{xor-eq}
use Rattle.gf2.proofs.Ring.{sq_is, mul-zero_l, mul-zero_r, mul-one_l, mul-one_r, sq-xor, mul_comm, mul_assoc}

module _ (n t : ℕ) (small : t < 2 ^ n) (inv-lt : (a : ℕ) → inv n t a < 2 ^ n) (mul-inv : (a : ℕ) → a < 2 ^ n → a ≢ 0 → mul n t a (inv n t a) ≡ 1) where
  -- a factor that is not zero is cancelled
  pub cancel : (a b : ℕ) → a < 2 ^ n → b < 2 ^ n → a ≢ 0 → mul n t (inv n t a) (mul n t a b) ≡ b
  cancel a b ha hb ne =
      sym (mul_assoc n t small (inv n t a) a b) ∙ ap (λ (x : ℕ). mul n t x b) (mul_comm n t (inv n t a) a ∙ mul-inv a ha ne) ∙ mul-one_l n t b hb

  pub inv_unique : (a b : ℕ) → a < 2 ^ n → b < 2 ^ n → mul n t a b ≡ 1 → b ≡ inv n t a
  inv_unique a b ha hb e = sym (cancel a b ha hb ne) ∙ ap (mul n t (inv n t a)) e ∙ mul-one_r n t (inv n t a) (inv-lt a)
    where
      ne : a ≢ 0
      ne z = let w : ◌≡◌ {A = ℕ} 0 1 = sym (mul-zero_l n t b) ∙ ap (λ (x : ℕ). mul n t x b) (sym z) ∙ e in omega arith

  pub mul-eq-zero : (a b : ℕ) → a < 2 ^ n → b < 2 ^ n → mul n t a b ≡ 0 → (a ≡ 0) ⊎ (b ≡ 0)
  mul-eq-zero a b ha hb e = pick (ℕ_discrete a 0)
    where
      pick : Dec (a ≡ 0) → (a ≡ 0) ⊎ (b ≡ 0)
      pick (yes z) = inl z
      pick (no ne) = inr (sym (cancel a b ha hb ne) ∙ ap (mul n t (inv n t a)) e ∙ mul-zero_r n t (inv n t a))

  pub sq_inj : (a b : ℕ) → a < 2 ^ n → b < 2 ^ n → sq n t a ≡ sq n t b → a ≡ b
  sq_inj a b ha hb e = xor-eq a b (pick (mul-eq-zero (a ⊕ b) (a ⊕ b) (xor_lt n a b ha hb) (xor_lt n a b ha hb)
      (sym (sq_is n t (a ⊕ b)) ∙ sq-xor n t a b ∙ ap (λ (x : ℕ). x ⊕ sq n t b) e ∙ xor_self (sq n t b))))
    where
      pick : {x : ℕ} → (x ≡ 0) ⊎ (x ≡ 0) → x ≡ 0
      pick (inl z) = z
      pick (inr z) = z
