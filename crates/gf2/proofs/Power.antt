-- Powers in the ring of residues, and the Frobenius map a ↦ a² repeated.
use mathlib.Core.Path.{◌≡◌, refl, sym, ap, ap₂, ◌∙◌}
use Prim.Native.Nat.{ℕ, zero, suc, ◌+◌, ◌^◌, ◌<◌}
use native.Mathlib.Nat.{zero-add, suc-add, two-pow-succ, pow-suc, le_trans, le-suc}
use lib.Pow.{pow-lt}
use Rattle.gf2.specs.Poly.{◌⊕◌}
use Rattle.gf2.specs.Residue.{rem, mul, sq, pow, frob}
use Rattle.gf2.proofs.Cmul.{cmul-pow}
use Rattle.gf2.proofs.Rem.{rem_low}
use Rattle.gf2.proofs.Ring.{mul-lt, mul_assoc, mul-one_l, mul-one_r, sq_is, sq-lt, sq-xor, sq-mul}

module _ (n t : ℕ) where
  pub frob-xor : (k a b : ℕ) → frob n t k (a ⊕ b) ≡ frob n t k a ⊕ frob n t k b
  unfolding frob
  frob-xor zero a b = refl
  frob-xor (suc k) a b = ap (sq n t) (frob-xor k a b) ∙ sq-xor n t (frob n t k a) (frob n t k b)

  pub frob_plus : (i j a : ℕ) → frob n t (i + j) a ≡ frob n t i (frob n t j a)
  unfolding frob
  frob_plus zero j a = ap (λ (k : ℕ). frob n t k a) (zero-add j)
  frob_plus (suc i) j a = ap (λ (k : ℕ). frob n t k a) (suc-add i j) ∙ ap (sq n t) (frob_plus i j a)

  module _ (ht : t < 2 ^ n) where
    pub frob-lt : (k : ℕ) {a : ℕ} → a < 2 ^ n → frob n t k a < 2 ^ n
    unfolding frob
    frob-lt zero h = h
    frob-lt (suc k) {a} h = sq-lt n t ht (frob n t k a)

    pub frob-mul : (k a b : ℕ) → frob n t k (mul n t a b) ≡ mul n t (frob n t k a) (frob n t k b)
    unfolding frob
    frob-mul zero a b = refl
    frob-mul (suc k) a b = ap (sq n t) (frob-mul k a b) ∙ sq-mul n t ht (frob n t k a) (frob n t k b)

    pub frob-one : 1 < 2 ^ n → (k : ℕ) → frob n t k 1 ≡ 1
    unfolding frob
    frob-one h zero = refl
    frob-one h (suc k) = ap (sq n t) (frob-one h k) ∙ sq_is n t 1 ∙ mul-one_l n t 1 h

    -- x^(i + 1) as a product
    mul-x : (i : ℕ) → suc i < n → mul n t (2 ^ i) 2 ≡ 2 ^ suc i
    unfolding mul
    mul-x i h = ap (rem n t) (cmul-pow (2 ^ i) 1 ∙ sym (pow-suc 2 i)) ∙ rem_low n t (2 ^ suc i) (pow-lt h)

    -- what fixes x fixes its powers
    pub frob_x : (k : ℕ) → frob n t k 2 ≡ 2 → (i : ℕ) → i < n → frob n t k (2 ^ i) ≡ 2 ^ i
    frob_x k e zero h = frob-one (pow-lt h) k
    frob_x k e (suc i) h =
        ap (frob n t k) (sym (mul-x i h)) ∙ frob-mul k (2 ^ i) 2
        ∙ ap₂ (mul n t) (frob_x k e i (le_trans (le-suc (suc i)) h)) e ∙ mul-x i h

    -- ---- powers

    pub pow_below : 1 < 2 ^ n → (a k : ℕ) → pow n t a k < 2 ^ n
    unfolding pow
    pow_below h a zero = h
    pow_below h a (suc k) = mul-lt n t ht a (pow n t a k)

    pub pow_plus : 1 < 2 ^ n → (a i j : ℕ) → pow n t a (i + j) ≡ mul n t (pow n t a i) (pow n t a j)
    unfolding pow
    pow_plus h a zero j = ap (pow n t a) (zero-add j) ∙ sym (mul-one_l n t (pow n t a j) (pow_below h a j))
    pow_plus h a (suc i) j =
        ap (pow n t a) (suc-add i j) ∙ ap (mul n t a) (pow_plus h a i j) ∙ sym (mul_assoc n t ht a (pow n t a i) (pow n t a j))

    pub pow-frob : 1 < 2 ^ n → (a k : ℕ) → a < 2 ^ n → pow n t a (2 ^ k) ≡ frob n t k a
    unfolding frob pow
    pow-frob h a zero l = mul-one_r n t a l
    pow-frob h a (suc k) l =
        ap (pow n t a) (two-pow-succ k) ∙ pow_plus h a (2 ^ k) (2 ^ k) ∙ ap₂ (mul n t) (pow-frob h a k l) (pow-frob h a k l)
        ∙ sym (sq_is n t (frob n t k a))
