-- The ring of residues modulo x^n + t: numbers of n bits, with XOR for the sum.
use mathlib.Core.Path.{◌≡◌, sym, ap, ◌∙◌}
use Prim.Native.Nat.{ℕ, ◌^◌, ◌<◌}
use lib.Bits.{xor_comm, xor_self, xor_zero_r, xor_lt}
use Rattle.gf2.specs.Poly.{◌⊕◌, cmul, spread}
use Rattle.gf2.specs.Residue.{rem, mul, sq}
use Rattle.gf2.specs.Ring.{Ring}
use Rattle.gf2.proofs.Xor.{xor_assoc}
use Rattle.gf2.proofs.Cmul.{cmul-zero_l, cmul-one_l, cmul_comm, cmul_assoc, cmul-xor_l, cmul-xor_r, cmul_square}
use Rattle.gf2.proofs.Square.{square_spread}
use Rattle.gf2.proofs.Rem.{rem-zero, rem-xor, rem_low, rem_lt, rem-cmul_l, rem-cmul_r}

module _ (n t : ℕ) where
  pub mul_comm : (a b : ℕ) → mul n t a b ≡ mul n t b a
  unfolding mul
  mul_comm a b = ap (rem n t) (cmul_comm a b)

  pub mul-zero_l : (a : ℕ) → mul n t 0 a ≡ 0
  unfolding mul
  mul-zero_l a = ap (rem n t) (cmul-zero_l a) ∙ rem-zero n t

  pub mul-zero_r : (a : ℕ) → mul n t a 0 ≡ 0
  mul-zero_r a = mul_comm a 0 ∙ mul-zero_l a

  pub mul-one_l : (a : ℕ) → a < 2 ^ n → mul n t 1 a ≡ a
  unfolding mul
  mul-one_l a h = ap (rem n t) (cmul-one_l a) ∙ rem_low n t a h

  pub mul-one_r : (a : ℕ) → a < 2 ^ n → mul n t a 1 ≡ a
  mul-one_r a h = mul_comm a 1 ∙ mul-one_l a h

  pub mul-xor_l : (a b c : ℕ) → mul n t (a ⊕ b) c ≡ mul n t a c ⊕ mul n t b c
  unfolding mul
  mul-xor_l a b c = ap (rem n t) (cmul-xor_l a b c) ∙ rem-xor n t (cmul a c) (cmul b c)

  pub mul-xor_r : (a b c : ℕ) → mul n t a (b ⊕ c) ≡ mul n t a b ⊕ mul n t a c
  unfolding mul
  mul-xor_r a b c = ap (rem n t) (cmul-xor_r a b c) ∙ rem-xor n t (cmul a b) (cmul a c)

  pub sq_is : (a : ℕ) → sq n t a ≡ mul n t a a
  unfolding sq mul
  sq_is a = ap (rem n t) (sym (square_spread a))

  -- the Frobenius map is additive
  pub sq-xor : (a b : ℕ) → sq n t (a ⊕ b) ≡ sq n t a ⊕ sq n t b
  unfolding mul
  sq-xor a b = simp sq_is (ap (rem n t) (cmul_square a b) ∙ rem-xor n t (cmul a a) (cmul b b))

  module _ (ht : t < 2 ^ n) where
    pub mul-lt : (a b : ℕ) → mul n t a b < 2 ^ n
    unfolding mul
    mul-lt a b = rem_lt n t ht (cmul a b)

    pub mul_assoc : (a b c : ℕ) → mul n t (mul n t a b) c ≡ mul n t a (mul n t b c)
    unfolding mul
    mul_assoc a b c =
        rem-cmul_l n t ht (cmul a b) c ∙ ap (rem n t) (cmul_assoc a b c) ∙ sym (rem-cmul_r n t ht a (cmul b c))

    pub mul_left_comm : (a b c : ℕ) → mul n t a (mul n t b c) ≡ mul n t b (mul n t a c)
    mul_left_comm a b c = sym (mul_assoc a b c) ∙ ap (λ (x : ℕ). mul n t x c) (mul_comm a b) ∙ mul_assoc b a c

    pub sq-lt : (a : ℕ) → sq n t a < 2 ^ n
    unfolding sq
    sq-lt a = rem_lt n t ht (spread a)

    pub sq-mul : (a b : ℕ) → sq n t (mul n t a b) ≡ mul n t (sq n t a) (sq n t b)
    sq-mul a b = simp (sq_is, mul_assoc, mul_left_comm)

    pub ring : Ring n t
    ring =
        record {
          sum_lt = xor_lt n;
          sum_assoc = xor_assoc;
          sum_comm = xor_comm;
          sum_zero = xor_zero_r;
          sum_self = xor_self;
          product_lt = mul-lt;
          product_assoc = mul_assoc;
          product_comm = mul_comm;
          product_one = mul-one_r;
          distributes = mul-xor_r;
          square = sq_is;
          square_sum = sq-xor;
        }
